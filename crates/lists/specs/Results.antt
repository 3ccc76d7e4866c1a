-- Results in a chain.
use Rattle.std.specs.Prelude.{ℕ, zero, suc, ◌≡◌, Option, Some, None, Result, Ok, Err, IfSome}

-- the next result, of the value; the first error stays
abbrev pub and_then : {A B E : Type 0} → Result A E → (A → Result B E) → Result B E
and_then (Ok a) next = next a
and_then (Err e) next = Err e

-- the same result, with another name for its error
abbrev pub named : {A E F : Type 0} → (E → F) → Result A E → Result A F
named name (Ok a) = Ok a
named name (Err e) = Err (name e)

-- the value, unless something is found that forbids it
abbrev pub unless : {A E : Type 0} → Option E → A → Result A E
unless None a = Ok a
unless (Some e) a = Err e

-- a result, and another where it is an error
abbrev pub or_else : {A E : Type 0} → Result A E → Result A E → Result A E
or_else (Ok a) other = Ok a
or_else (Err e) other = other

-- the first value among f 0 to f n; where there is none, the error of f n
abbrev pub first_value : {A E : Type 0} → ℕ → (ℕ → Result A E) → Result A E
first_value zero f = f 0
first_value (suc n) f = or_else (first_value n f) (f (suc n))

-- a call gives the expected result, as its value and its fault are seen; a fault that is seen as none says nothing
abbrev pub Gives : {X Y E F : Type 0} → (X → Y) → (F → Option E) → Result Y E → Result X F → Type 0
Gives view seen expected (Ok x) = expected ≡ Ok (view x)
Gives view seen expected (Err fault) = IfSome (seen fault) (λ e. expected ≡ Err e)
