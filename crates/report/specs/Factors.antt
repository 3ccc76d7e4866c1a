-- The line of a bend's factors in the member table and that of a tee, and what they tell of the factors.
use Rattle.std.specs.Prelude.{◌≡◌, ◌^◌, List, [], ◌∷◌, ◌++◌, codes, ℤ, pos, Result, Ok, Err}
use Rattle.flex_interval.specs.Ends.{Ends}
use Rattle.flex_interval.specs.Fraction.{Fraction, Within, plus, scaled, whole}
use Rattle.flex_interval.specs.declared.fault.IvFault.{IvFault}
use Rattle.model_types.specs.Fits.{ends_of}
use Rattle.model_types.specs.declared.answers.Bounds.{Bounds}
use Rattle.model_types.specs.declared.records.Section.{Section}
use Rattle.model_types.specs.declared.records.TeeKind.{TeeKind}
use Rattle.sif_factors.specs.Characteristic.{bend_characteristic, tee_square}
use Rattle.sif_factors.specs.Factors.{bend_factors_of, flexibility_factor, greater_cube, lesser_cube, tee_factors_of}
use Rattle.sif_factors.specs.Index.{EnclosesIndex, EnclosesIndexIn}
use Rattle.sif_factors.specs.Parts.{squared}
use Rattle.sif_factors.specs.declared.Factors.{Factors}
use Rattle.report.specs.Report.{Word, bounds_words, printed}

-- a factor in units of 1 / unit, printed in millionths, rounded outwards
abbrev pub millionths : ℤ → Ends → Bounds
millionths unit e = printed (pos (10 ^ 6)) unit (record { lo = e.lo; hi = e.hi })

-- the name of a factor and its pair
abbrev pub named_pair : Word → ℤ → Ends → List Word
named_pair name unit e = name ∷ bounds_words (millionths unit e)

-- the stress intensification factors in plane and out of plane
abbrev pub index_words : Factors → List Word
index_words f = named_pair (codes "ii") (pos (2 ^ 30)) f.ii ++ named_pair (codes "io") (pos (2 ^ 30)) f.io

-- the words of the line: the flexibility factor, and the stress intensification factors
abbrev pub factor_words : Factors → List Word
factor_words f = codes "factor" ∷ named_pair (codes "k") (pos (2 ^ 56)) f.k ++ index_words f

abbrev pub factor_lines : Result Factors IvFault → List (List Word)
factor_lines (Ok factors) = factor_words factors ∷ []
factor_lines (Err fault) = []

-- the factors of a bend of radius r lie in their pairs: k, and each index by its cube
pub record TellsFactors (s : Section) (r : ℤ) (f : Factors) : Type 0 where
  pub k : Within (ends_of (millionths (pos (2 ^ 56)) f.k)) (scaled (flexibility_factor (bend_characteristic s r)) (pos (10 ^ 6)) (pos (2 ^ 56)))
  pub ii : EnclosesIndexIn (pos (10 ^ 6)) greater_cube (squared (bend_characteristic s r)) (ends_of (millionths (pos (2 ^ 30)) f.ii))
  pub io : EnclosesIndexIn (pos (10 ^ 6)) lesser_cube (squared (bend_characteristic s r)) (ends_of (millionths (pos (2 ^ 30)) f.io))

-- a bend of radius r has factors, and they lie in the pairs that are printed
pub record FactorsAreTold (s : Section) (r : ℤ) : Type 0 where
  pub factors : Factors
  pub are : bend_factors_of s r ≡ Ok factors
  pub told : TellsFactors s r factors

-- ---- tees

-- the words of a tee's line: the name of its node, and the stress intensification factors
abbrev pub tee_words : Word → Factors → List Word
tee_words node f = codes "tee" ∷ node ∷ index_words f

abbrev pub tee_lines : Word → Result Factors IvFault → List (List Word)
tee_lines node (Ok factors) = tee_words node factors ∷ []
tee_lines node (Err fault) = []

-- three quarters of an index in 2^-30, and one quarter
abbrev pub in_plane_index : Fraction → Fraction
in_plane_index i = plus (scaled i (pos 3) (pos 4)) (whole (pos (2 ^ 28)))

-- the index of a tee lies in the interval of io and, by its cube, in io's pair; and the pair of ii holds the index in plane that belongs
-- to any number of that interval
pub record TellsTee (header : Section) (kind : TeeKind) (f : Factors) : Type 0 where
  pub index : EnclosesIndex greater_cube (tee_square header kind) f.io
  pub io : EnclosesIndexIn (pos (10 ^ 6)) greater_cube (tee_square header kind) (ends_of (millionths (pos (2 ^ 30)) f.io))
  pub ii : (i : Fraction) → Within f.io i → Within (ends_of (millionths (pos (2 ^ 30)) f.ii)) (scaled (in_plane_index i) (pos (10 ^ 6)) (pos (2 ^ 30)))

-- a tee on a header has factors, and they lie in the pairs that are printed
pub record TeeIsTold (header : Section) (kind : TeeKind) : Type 0 where
  pub factors : Factors
  pub are : tee_factors_of header kind ≡ Ok factors
  pub told : TellsTee header kind factors
