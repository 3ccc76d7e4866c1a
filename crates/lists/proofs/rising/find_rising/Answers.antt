use Rattle.lists.proofs.RisingLemmas.{place_found}
use Rattle.lists.proofs.rising.find_rising.Goals as goal

pub returns : goal.returns
returns c = rw c.ok.ensures.value (place_found c.args.list.now c.args.number _ c.requires c.binary_search.ensures.position)
