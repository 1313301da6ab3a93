-- The bits of a word: which the operations on words give, and that a word is told by its bits. Assumes nothing.
use Rattle.std.proofs.Common.{◌≡◌, ℕ, zero, suc, ◌+◌, ◌-◌, ◌*◌, ◌/◌, ◌%◌, ◌^◌, ◌<◌, ◌≤◌, Bool, true, false, not, ◌&&◌, ◌||◌, eqb, sym, refl, ap, ◌∙◌, subst, ⊎_elim, mod-lt, pow-suc, div-one, arith, pow_mono}
use native.Mathlib.Nat.{div-eq_of_lt, zero-div}
use lib.Bits.{bit_and, bit_or, block_half, block_odd}
use lib.Count.{count_trailing_zeros, under}
use Rattle.std.proofs.lemmas.Nat.{and_shr, or_shr, and_mod, or_mod, shr-shr, shr_high, pow_pos}
use Rattle.std.proofs.lemmas.Bool.{eq-eqb, ne_eqb, eqb-true, and_parts, cases_lt}
use Rattle.algebra.specs.Kinds.{word_bit}

past : {A : Type 0} {x : ℕ} → suc (suc x) < 2 → A
past h = absurd (omega arith)

below_two : (n : ℕ) → n % 2 < 2
below_two n = mod-lt n (omega arith)

and_digit : (x y : ℕ) → x < 2 → y < 2 → eqb (bit_and x y) 1 ≡ (eqb x 1 && eqb y 1)
and_digit zero y hx hy = refl
and_digit (suc zero) zero hx hy = refl
and_digit (suc zero) (suc zero) hx hy = refl
and_digit (suc zero) (suc (suc y)) hx hy = past hy
and_digit (suc (suc x)) y hx hy = past hx

or_digit : (x y : ℕ) → x < 2 → y < 2 → eqb (bit_or x y) 1 ≡ (eqb x 1 || eqb y 1)
or_digit zero y hx hy = refl
or_digit (suc zero) zero hx hy = refl
or_digit (suc zero) (suc zero) hx hy = refl
or_digit (suc zero) (suc (suc y)) hx hy = past hy
or_digit (suc (suc x)) y hx hy = past hx

not_digit : (x y : ℕ) → x + y ≡ 1 → eqb x 1 ≡ not (eqb y 1)
not_digit zero y h = let one : 1 ≡ y = omega arith in ap (λ (d : ℕ). not (eqb d 1)) one
not_digit (suc x) y h = eq-eqb (suc x) 1 (omega arith) ∙ ap not (sym (ne_eqb y 1 (λ e. omega arith)))

same_digit : (x y : ℕ) → x < 2 → y < 2 → eqb x 1 ≡ eqb y 1 → x ≡ y
same_digit zero zero hx hy e = refl
same_digit zero (suc zero) hx hy e = eqb-true 0 1 e
same_digit (suc zero) zero hx hy e = sym (eqb-true 0 1 (sym e))
same_digit (suc zero) (suc zero) hx hy e = refl
same_digit zero (suc (suc y)) hx hy e = past hy
same_digit (suc zero) (suc (suc y)) hx hy e = past hy
same_digit (suc (suc x)) y hx hy e = past hx

pub and_bit : (a b j : ℕ) → word_bit (bit_and a b) j ≡ (word_bit a j && word_bit b j)
and_bit a b j =
    ap (λ (x : ℕ). eqb (x % 2) 1) (and_shr a b j)
    ∙ ap (λ (x : ℕ). eqb x 1) (and_mod (a / 2 ^ j) (b / 2 ^ j) 1)
    ∙ and_digit (a / 2 ^ j % 2) (b / 2 ^ j % 2) (below_two _) (below_two _)

pub or_bit : (a b j : ℕ) → word_bit (bit_or a b) j ≡ (word_bit a j || word_bit b j)
or_bit a b j =
    ap (λ (x : ℕ). eqb (x % 2) 1) (or_shr a b j)
    ∙ ap (λ (x : ℕ). eqb x 1) (or_mod (a / 2 ^ j) (b / 2 ^ j) 1)
    ∙ or_digit (a / 2 ^ j % 2) (b / 2 ^ j % 2) (below_two _) (below_two _)

-- the lowest bit, and the others as those of the half
lowest : (w : ℕ) → word_bit w 0 ≡ eqb (w % 2) 1
lowest w = ap (λ (x : ℕ). eqb (x % 2) 1) (div-one w)

halved : (w j : ℕ) → word_bit w (suc j) ≡ word_bit (w / 2) j
halved w j = ap (λ (x : ℕ). eqb (x % 2) 1) (sym (shr-shr w 1 j ∙ ap (λ (e : ℕ). w / 2 ^ e) (omega arith)))

pub zero_bit : (j : ℕ) → word_bit 0 j ≡ false
zero_bit j = ap (λ (x : ℕ). eqb (x % 2) 1) (zero-div (2 ^ j))

-- no bit stands past the length of a word
pub past_bit : (w m j : ℕ) → w < 2 ^ m → m ≤ j → word_bit w j ≡ false
past_bit w m j h far =
    let longer : w < 2 ^ j = omega (arith, pow_mono {i = m} {j = j} far) in
    ap (λ (x : ℕ). eqb (x % 2) 1) (div-eq_of_lt longer)

pub not_bit : (k a j : ℕ) → a < 2 ^ k → j < k → word_bit ((2 ^ k - 1) - a) j ≡ not (word_bit a j)
not_bit zero a j h below = absurd (omega arith)
not_bit (suc k) a zero h below =
    lowest ((2 ^ suc k - 1) - a)
    ∙ not_digit (((2 ^ suc k - 1) - a) % 2) (a % 2) (omega (arith, pow-suc 2 k))
    ∙ ap not (sym (lowest a))
not_bit (suc k) a (suc j) h below =
    let half : ((2 ^ suc k - 1) - a) / 2 ≡ (2 ^ k - 1) - a / 2 = omega (arith, pow-suc 2 k) in
    let shorter : a / 2 < 2 ^ k = omega (arith, pow-suc 2 k) in
    halved ((2 ^ suc k - 1) - a) j
    ∙ ap (λ (x : ℕ). word_bit x j) half
    ∙ not_bit k (a / 2) j shorter (omega arith)
    ∙ ap not (sym (halved a j))

-- the word of k ones
pub ones_bit : (k j : ℕ) → j < k → word_bit (2 ^ k - 1) j ≡ true
ones_bit k j below =
    let whole : 2 ^ k - 1 ≡ (2 ^ k - 1) - 0 = omega arith in
    ap (λ (w : ℕ). word_bit w j) whole ∙ not_bit k 0 j (pow_pos k) below ∙ ap not (zero_bit j)

pub same_bits : (k a b : ℕ) → a < 2 ^ k → b < 2 ^ k → ((j : ℕ) → j < k → word_bit a j ≡ word_bit b j) → a ≡ b
same_bits zero a b ha hb same = omega arith
same_bits (suc k) a b ha hb same =
    let half : a / 2 ≡ b / 2 = same_bits k (a / 2) (b / 2) (omega (arith, pow-suc 2 k)) (omega (arith, pow-suc 2 k))
    (λ j below. sym (halved a j) ∙ same (suc j) (omega arith) ∙ halved b j) in
    let low : a % 2 ≡ b % 2 = same_digit (a % 2) (b % 2) (below_two a) (below_two b)
    (sym (lowest a) ∙ same 0 (omega arith) ∙ lowest b) in
    omega arith

-- below bit m, what is added at bit m and above is not seen
pub low_bit : (m p c j : ℕ) → p < m → word_bit (c * 2 ^ m + j) p ≡ word_bit j p
low_bit zero p c j below = absurd (omega arith)
low_bit (suc m) zero c j below =
    lowest (c * 2 ^ suc m + j) ∙ ap (λ (x : ℕ). eqb x 1) (block_odd c m j) ∙ sym (lowest j)
low_bit (suc m) (suc p) c j below =
    halved (c * 2 ^ suc m + j) p
    ∙ ap (λ (x : ℕ). word_bit x p) (block_half c m j)
    ∙ low_bit m p c (j / 2) (omega arith)
    ∙ sym (halved j p)

-- from bit m on, only that is seen
pub high_bit : (m q c j : ℕ) → j < 2 ^ m → word_bit (c * 2 ^ m + j) (m + q) ≡ word_bit c q
high_bit m q c j below =
    ap (λ (x : ℕ). eqb (x % 2) 1) (sym (shr-shr (c * 2 ^ m + j) m q) ∙ ap (λ (x : ℕ). x / 2 ^ q) (shr_high c m j below))

-- where the lowest 1 stands
pub record Lowest (k w t : ℕ) : Type 0 where
  pub within : t < k
  pub set : word_bit w t ≡ true
  pub clear : (j : ℕ) → j < t → word_bit w j ≡ false

later : (k w t : ℕ) → w % 2 ≡ 0 → Lowest k (w / 2) t → Lowest (suc k) w (suc t)
later k w t even rest = record { within = omega arith; set = halved w t ∙ rest.set; clear = below }
  where
    below : (j : ℕ) → j < suc t → word_bit w j ≡ false
    below zero h = lowest w ∙ ap (λ (x : ℕ). eqb x 1) even
    below (suc j) h = halved w j ∙ rest.clear j (omega arith)

at_once : (k w : ℕ) → w % 2 ≡ 1 → Lowest (suc k) w 0
at_once k w odd = record { within = omega arith; set = lowest w ∙ ap (λ (x : ℕ). eqb x 1) odd; clear = λ j h. absurd (omega arith) }

either : (k w d t : ℕ) → w % 2 ≡ d → (d ≡ 0 → Lowest k (w / 2) t) → Lowest (suc k) w (under d t)
either k w zero t e rest = later k w t e (rest refl)
either k w (suc d) t e rest = at_once k w (omega (arith, below_two w))

pub trailing_lowest : (k w : ℕ) → 0 < w → w < 2 ^ k → Lowest k w (count_trailing_zeros k w)
unfolding count_trailing_zeros
trailing_lowest zero w some h = absurd (omega arith)
trailing_lowest (suc k) w some h =
    either k w (w % 2) (count_trailing_zeros k (w / 2)) refl
    (λ even. trailing_lowest k (w / 2) (omega arith) (omega (arith, pow-suc 2 k)))

-- the first k bits of w are bit p of their places, as a test that computes
abbrev column_to : ℕ → ℕ → ℕ → Bool
column_to zero w p = true
column_to (suc k) w p = eqb (w / 2 ^ k % 2) (k / 2 ^ p % 2) && column_to k w p

pub column_bits : (k w p j : ℕ) → column_to k w p ≡ true → j < k → word_bit w j ≡ word_bit j p
column_bits zero w p j tested below = absurd (omega arith)
column_bits (suc k) w p j tested below =
    let parts = and_parts (eqb (w / 2 ^ k % 2) (k / 2 ^ p % 2)) (column_to k w p) tested in
    ⊎_elim (λ h. column_bits k w p j parts.1 h)
    (λ h. let last : k ≡ j = omega arith in
    subst (λ (x : ℕ). word_bit w x ≡ word_bit x p) last (ap (λ (d : ℕ). eqb d 1) (eqb-true (w / 2 ^ k % 2) (k / 2 ^ p % 2) parts.0)))
    (cases_lt j k)
