-- Products of whole numbers against sums and against order.
use Rattle.std.proofs.Common.{◌≡◌, ℕ, zero, suc, ◌+◌, ◌*◌, ◌^◌, ◌≤◌, ◌⊎◌, inl, inr, ap, arith, mul-le-mul, unsigned_abs, ℤ, pos, negsuc, ◌+ℤ◌, ◌-ℤ◌, ◌*ℤ◌, neg_ℤ, ◌≤ℤ◌, ◌<ℤ◌}
use Rattle.std.proofs.lemmas.Int.{ints, by_lt_z}
use Rattle.int_laws.proofs.Sums.{int_sums}
use borrow.Author.Differences.{up, down, product_is, sum_is_lem, neg_is, same_in}

-- z is `up z - down z`; these carry the two parts through products and signs
up-mul : (a b : ℤ) → up (a *ℤ b) ≡ up a * up b + down a * down b
up-mul a b = (product_is a b).0

down-mul : (a b : ℤ) → down (a *ℤ b) ≡ up a * down b + down a * up b
down-mul a b = (product_is a b).1

up-neg : (a : ℤ) → up (neg_ℤ a) ≡ down a
up-neg a = (neg_is a).0

down-neg : (a : ℤ) → down (neg_ℤ a) ≡ up a
down-neg a = (neg_is a).1

pub mul_comm : (a b : ℤ) → a *ℤ b ≡ b *ℤ a
mul_comm a b = omega (arith, ints)

pub one-mul : (a : ℤ) → pos 1 *ℤ a ≡ a
one-mul a = omega (arith, ints)

pub zero-mul : (a : ℤ) → pos 0 *ℤ a ≡ pos 0
zero-mul a = omega (arith, ints)

pub add-mul : (a b c : ℤ) → (a +ℤ b) *ℤ c ≡ (a *ℤ c) +ℤ (b *ℤ c)
add-mul a b c =
    let above = ap (λ (n : ℕ). n * up c) (sum_is_lem a b) in
    let below = ap (λ (n : ℕ). n * down c) (sum_is_lem a b) in
    omega (arith, ints, above, below)

pub neg-mul : (a b : ℤ) → neg_ℤ a *ℤ b ≡ neg_ℤ (a *ℤ b)
neg-mul a b = same_in _ _ (simp (up-mul, down-mul, up-neg, down-neg) (omega arith))

pub sub-mul : (a b c : ℤ) → (a -ℤ b) *ℤ c ≡ (a *ℤ c) -ℤ (b *ℤ c)
sub-mul a b c = omega (arith, int_sums, add-mul a (neg_ℤ b) c, neg-mul b c)

pub mul-add : (a b c : ℤ) → a *ℤ (b +ℤ c) ≡ (a *ℤ b) +ℤ (a *ℤ c)
mul-add a b c = omega (arith, int_sums, add-mul b c a, mul_comm a (b +ℤ c), mul_comm b a, mul_comm c a)

pub mul-neg : (a b : ℤ) → a *ℤ neg_ℤ b ≡ neg_ℤ (a *ℤ b)
mul-neg a b = same_in _ _ (simp (up-mul, down-mul, up-neg, down-neg) (omega arith))

pub mul-sub : (a b c : ℤ) → a *ℤ (b -ℤ c) ≡ (a *ℤ b) -ℤ (a *ℤ c)
mul-sub a b c = omega (arith, int_sums, mul-add a b (neg_ℤ c), mul-neg a c)

pub mul_assoc : (a b c : ℤ) → (a *ℤ b) *ℤ c ≡ a *ℤ (b *ℤ c)
mul_assoc a b c = same_in _ _ (simp (up-mul, down-mul) (omega arith))

-- the first factor past the second, to bring factors together
pub mul_swap : (a b c : ℤ) → a *ℤ (b *ℤ c) ≡ b *ℤ (a *ℤ c)
mul_swap a b c = same_in _ _ (simp (up-mul, down-mul) (omega arith))

-- the first and the last of three factors change places
pub mul_turn : (a b c : ℤ) → a *ℤ (b *ℤ c) ≡ c *ℤ (b *ℤ a)
mul_turn a b c = same_in _ _ (simp (up-mul, down-mul) (omega arith))

-- the two last factors change places
pub mul_right_comm : (a b c : ℤ) → (a *ℤ b) *ℤ c ≡ (a *ℤ c) *ℤ b
mul_right_comm a b c = same_in _ _ (simp (up-mul, down-mul) (omega arith))

-- of four factors the two in the middle change places
pub mul_mul_mul_comm : (a b c d : ℤ) → (a *ℤ b) *ℤ (c *ℤ d) ≡ (a *ℤ c) *ℤ (b *ℤ d)
mul_mul_mul_comm a b c d = same_in _ _ (simp (up-mul, down-mul) (omega arith))

-- ---- order
pub mul_nonnegative : (a b : ℤ) → pos 0 ≤ℤ a → pos 0 ≤ℤ b → pos 0 ≤ℤ (a *ℤ b)
mul_nonnegative (pos a) (pos b) p q = omega (arith, ints)
mul_nonnegative (pos a) (negsuc b) p q = absurd (omega (arith, ints))
mul_nonnegative (negsuc a) b p q = absurd (omega (arith, ints))

pub mul_positive : (a b : ℤ) → pos 0 <ℤ a → pos 0 <ℤ b → pos 0 <ℤ (a *ℤ b)
mul_positive (pos zero) b p q = absurd (omega (arith, ints))
mul_positive (pos (suc a)) (pos zero) p q = absurd (omega (arith, ints))
mul_positive (pos (suc a)) (pos (suc b)) p q = omega (arith, ints)
mul_positive (pos (suc a)) (negsuc b) p q = absurd (omega (arith, ints))
mul_positive (negsuc a) b p q = absurd (omega (arith, ints))

-- a square is never negative
pub square_nonnegative : (a : ℤ) → pos 0 ≤ℤ (a *ℤ a)
square_nonnegative (pos a) = omega (arith, ints)
square_nonnegative (negsuc a) = omega (arith, ints)

pub le_mul : (c : ℤ) {a b : ℤ} → pos 0 ≤ℤ c → a ≤ℤ b → (a *ℤ c) ≤ℤ (b *ℤ c)
le_mul c {a} {b} positive h =
    let apart : pos 0 ≤ℤ (b -ℤ a) = omega (arith, int_sums) in
    omega (arith, int_sums, mul_nonnegative (b -ℤ a) c apart positive, sub-mul b a c)

-- a factor that is not positive turns the order round
pub le_mul_negative : (c : ℤ) {a b : ℤ} → c ≤ℤ pos 0 → a ≤ℤ b → (b *ℤ c) ≤ℤ (a *ℤ c)
le_mul_negative c {a} {b} negative h =
    let turned = le_mul (neg_ℤ c) (omega (arith, int_sums)) h in
    omega (arith, int_sums, mul-neg a c, mul-neg b c)

-- a product of two bounded numbers
pub product_most : (x n a b : ℤ) → pos 0 ≤ℤ a → pos 0 ≤ℤ n → x ≤ℤ a → n ≤ℤ b → (x *ℤ n) ≤ℤ (a *ℤ b)
product_most x n a b a_positive positive first second =
    omega (arith, int_sums, le_mul n positive first, le_mul a a_positive second, mul_comm n a, mul_comm b a)

pub lt_mul : (c : ℤ) {a b : ℤ} → pos 0 <ℤ c → a <ℤ b → (a *ℤ c) <ℤ (b *ℤ c)
lt_mul c {a} {b} positive h =
    let apart : pos 0 <ℤ (b -ℤ a) = omega (arith, int_sums) in
    omega (arith, int_sums, mul_positive (b -ℤ a) c apart positive, sub-mul b a c)

pub le_of_mul : (c a b : ℤ) → pos 0 <ℤ c → (a *ℤ c) ≤ℤ (b *ℤ c) → a ≤ℤ b
le_of_mul c a b positive h =
    by_lt_z b a (λ less. let back = lt_mul c positive less in absurd (omega (arith, int_sums))) (λ rest. rest)

pub lt_of_mul : (c a b : ℤ) → pos 0 ≤ℤ c → (a *ℤ c) <ℤ (b *ℤ c) → a <ℤ b
lt_of_mul c a b positive h =
    by_lt_z a b (λ less. less) (λ rest. let back = le_mul c positive rest in absurd (omega (arith, int_sums)))

pub same_of_mul : (c a b : ℤ) → pos 0 <ℤ c → a *ℤ c ≡ b *ℤ c → a ≡ b
same_of_mul c a b positive h =
    let below = le_of_mul c a b positive (omega (arith, int_sums)) in
    let above = le_of_mul c b a positive (omega (arith, int_sums)) in
    omega (arith, int_sums)

-- nothing but 0 lies between 0 and 0
pub between_zeros : (n d : ℤ) → (pos 0 *ℤ d) ≤ℤ n → n ≤ℤ (pos 0 *ℤ d) → n ≡ pos 0
between_zeros n d low high = omega (arith, int_sums, zero-mul d, low, high)

-- ---- num / den and n / d are one number: what lies below and above one lies below and above the other
pub moved_below : (e num den n d : ℤ) → pos 0 <ℤ den → pos 0 ≤ℤ d → num *ℤ d ≡ n *ℤ den → (e *ℤ den) ≤ℤ num → (e *ℤ d) ≤ℤ n
moved_below e num den n d positive h same low =
    let scaled = le_mul d h low in
    le_of_mul den (e *ℤ d) n positive (omega (arith, int_sums, scaled, same, mul_right_comm e den d))

pub moved_above : (e num den n d : ℤ) → pos 0 <ℤ den → pos 0 ≤ℤ d → num *ℤ d ≡ n *ℤ den → num ≤ℤ (e *ℤ den) → n ≤ℤ (e *ℤ d)
moved_above e num den n d positive h same high =
    let scaled = le_mul d h high in
    le_of_mul den n (e *ℤ d) positive (omega (arith, int_sums, scaled, same, mul_right_comm e den d))

-- ---- squares
pub square_less : (k r : ℤ) → pos 0 ≤ℤ k → k <ℤ r → (k *ℤ k) <ℤ (r *ℤ r)
square_less k r h less =
    let first : (k *ℤ k) ≤ℤ (r *ℤ k) = le_mul k h (omega (arith, int_sums)) in
    let second : (k *ℤ r) <ℤ (r *ℤ r) = lt_mul r (omega (arith, int_sums)) less in
    omega (arith, int_sums, mul_comm k r)

pub square_le : (k r : ℤ) → pos 0 ≤ℤ k → k ≤ℤ r → (k *ℤ k) ≤ℤ (r *ℤ r)
square_le k r h less =
    let first : (k *ℤ k) ≤ℤ (r *ℤ k) = le_mul k h less in
    let second : (k *ℤ r) ≤ℤ (r *ℤ r) = le_mul r (omega (arith, int_sums)) less in
    omega (arith, int_sums, mul_comm k r)

-- what has the lesser square is less in size
pub le_of_square : (k r : ℤ) → pos 0 ≤ℤ r → (k *ℤ k) ≤ℤ (r *ℤ r) → k ≤ℤ r
le_of_square k r h less = by_lt_z r k (λ greater. let over = square_less r k h greater in absurd (omega (arith, int_sums))) (λ rest. rest)

-- less, equal or greater
pub compared : (a b : ℤ) → (a <ℤ b) ⊎ ((a ≡ b) ⊎ (b <ℤ a))
compared a b =
    by_lt_z a b (λ less. inl less)
    (λ rest. by_lt_z b a (λ greater. inr (inr greater)) (λ same. inr (inl (omega (arith, int_sums)))))

-- the square of a number of 2^57 or more
pub square_large : (x : ℤ) → 2 ^ 57 ≤ unsigned_abs x → pos (2 ^ 114) ≤ℤ (x *ℤ x)
square_large (pos n) large = omega (arith, ints, mul-le-mul large large)
square_large (negsuc n) large = omega (arith, ints, mul-le-mul large large)
