-- The fault of accepting that the fault of a step becomes.
use Rattle.elim_tree.specs.declared.fault.TreeFault.{TreeFault}
use Rattle.elim_tree.specs.declared.fault.TreeFault.TheVariants as trees
use Rattle.model_text.specs.declared.reader.TextFault.{TextFault}
use Rattle.model_text.specs.declared.reader.TextFault.TheVariants as texts
use Rattle.accepted_text.specs.declared.fault.AcceptFault.{AcceptFault}
use Rattle.accepted_text.specs.declared.fault.AcceptFault.TheVariants.{Refused, NoMemory}

-- the grammar refuses the text
abbrev pub text_fault : TextFault → AcceptFault
text_fault (texts.Refused number line) = Refused number line
text_fault texts.NoMemory = NoMemory

-- the tree has too many entries, which no line of the text is to blame for
abbrev pub tree_fault : TreeFault → AcceptFault
tree_fault trees.Entries = Refused 16 1
tree_fault trees.NoMemory = NoMemory
