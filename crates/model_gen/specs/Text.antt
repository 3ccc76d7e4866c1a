-- The text of a generated model: a line of pipe of n expansion loops along x. Lengths are in micrometres.
use Rattle.std.specs.Prelude.{ℕ, ◌+◌, ◌*◌, ◌/◌, ◌%◌, ◌==◌, nat_lt, List, [], ◌∷◌, ◌++◌, flat_map, codes, if◌then◌else◌}
use Rattle.std.specs.Fmt.{decimal}
use Rattle.lists.specs.Listed.{listed}
use Rattle.text_words.specs.Fields.{line}
use Rattle.model_gen.specs.declared.rows.Row.{Row}
use Rattle.model_gen.specs.declared.rows.Row.TheVariants.{Node, Straight, Anchor, Support}

-- the names of node, straight, anchor and support number i
abbrev pub node_name : ℕ → List ℕ
node_name i = codes "p" ++ decimal i

abbrev pub straight_name : ℕ → List ℕ
straight_name i = codes "e" ++ decimal i

abbrev pub anchor_name : ℕ → List ℕ
anchor_name i = codes "a" ++ decimal i

abbrev pub support_name : ℕ → List ℕ
support_name i = codes "r" ++ decimal i

-- the place of node i: a loop is 6 m long, and its four nodes lie at (0, 0), (3 m, 0), (3 m, 3 m) and (6 m, 3 m)
abbrev pub east : ℕ → ℕ
east i = 6000000 * (i / 4) + (if i % 4 == 0 then 0 else if i % 4 == 3 then 6000000 else 3000000)

abbrev pub north : ℕ → ℕ
north i = if nat_lt (i % 4) 2 then 0 else 3000000

-- the words of record number i of a kind: a straight runs to the next node, an anchor holds the first node of a loop and a support
-- the third
abbrev pub words : Row → ℕ → List (List ℕ)
words Node i = codes "node" ∷ node_name i ∷ decimal (east i) ∷ decimal (north i) ∷ codes "0" ∷ []
words Straight i = codes "straight" ∷ straight_name i ∷ node_name i ∷ node_name (i + 1) ∷ codes "s" ∷ []
words Anchor i = codes "anchor" ∷ anchor_name i ∷ node_name (4 * i) ∷ codes "-" ∷ codes "-" ∷ []
words Support i = codes "oneway" ∷ support_name i ∷ node_name (4 * i + 2) ∷ codes "0" ∷ codes "0" ∷ codes "-1" ∷ codes "0" ∷ codes "100000000" ∷ []

-- the lines of the first records of a kind
abbrev pub rows : Row → ℕ → List ℕ
rows row count = flat_map line (listed count (words row))

-- the pipe, in the lines before those of the nodes; and the case of its weight
abbrev pub header_words : List (List ℕ)
header_words = codes "pipeflex" ∷ codes "1" ∷ []

abbrev pub material_words : List (List ℕ)
material_words = codes "material" ∷ codes "m" ∷ codes "200000" ∷ codes "300" ∷ codes "12000" ∷ codes "7850" ∷ []

abbrev pub section_words : List (List ℕ)
section_words = codes "section" ∷ codes "s" ∷ codes "m" ∷ codes "168300" ∷ codes "7110" ∷ codes "0" ∷ codes "0" ∷ []

abbrev pub case_words : List (List ℕ)
case_words = codes "case" ∷ codes "w" ∷ codes "0" ∷ codes "0" ∷ codes "-1000" ∷ codes "0" ∷ codes "0" ∷ codes "0" ∷ []

-- the text of n loops
unfoldable pub generated : ℕ → List ℕ
generated n =
    line header_words ++ line material_words ++ line section_words
    ++ rows Node (4 * n + 1) ++ rows Straight (4 * n) ++ rows Anchor (n + 1) ++ rows Support n ++ line case_words
