-- The words of a block mean what their bits say: what each call makes of them. Assumes nothing.
use Rattle.std.proofs.Common.{◌≡◌, ℕ, ◌+◌, ◌-◌, ◌*◌, ◌/◌, ◌%◌, ◌^◌, ◌<◌, ◌≤◌, Bool, false, not, ◌&&◌, eqb, ltb, Some, Ok, Decides, sym, refl, ap, ◌∙◌, ap₂, ⊎_elim, mod-lt, mod-eq_of_lt, arith, pow_mono}
use mathlib.Core.Path.{fun_ext}
use lib.Bits.{bit_and, bit_or}
use lib.Count.{count_trailing_zeros}
use lib.Pow.{ones_split, ones_lt}
use Rattle.std.specs.List.{range_with_len}
use Rattle.std.proofs.lemmas.Nat.{pow_pos, shr_high, or_lt, and_le_l}
use Rattle.std.proofs.lemmas.Bool.{lt-ltb, ltb-true, cases_lt, eqb-true, eq-eqb, cond-true, cond_both, both_ways}
use Rattle.cell.specs.Lists.{In}
use Rattle.cell.specs.States.{setting_bit}
use Rattle.algebra.specs.Kinds.{functions, keeps_nothing, block_meaning, word_bit, lanes, is_in_hand, taken}
use Rattle.algebra.specs.Holding.{Means, Forming}
use Rattle.algebra.specs.Signals.{Boolean, IsInput, IsComplement, First}
use Rattle.algebra.proofs.Keepless.{forming}
use Rattle.algebra.proofs.Words.{and_bit, or_bit, not_bit, ones_bit, past_bit, same_bits, low_bit, high_bit, Lowest, trailing_lowest}
use Rattle.algebra.proofs.Listed.{lanes_some, lanes_most, placed, listed_at, listed_place, seen_at}

pub boolean : Boolean functions (λ (f : ℕ → Bool) (t : ℕ). f t)
boolean = record {
  zero_bit = λ t. refl;
  one_bit = λ t. refl;
  join_bit = λ f g t. refl;
  meet_bit = λ f g t. refl;
  only = λ f g same. fun_ext same;
}

-- the value of a word
abbrev valued : ℕ → ℕ → ℕ → Bool
valued n w t = word_bit (taken n w) (t % lanes n)

-- forming f gives the word w
abbrev Forms : ℕ → ℕ → (ℕ → Bool) → ℕ → Type 0
Forms n k f w = Forming keeps_nothing (block_meaning n k) f (Ok w) (block_meaning n k)

taken_within : (n w : ℕ) → taken n w < 2 ^ lanes n
taken_within n w = cond_both (is_in_hand n w) w 0 (λ (x : ℕ). x < 2 ^ lanes n) (λ h. ltb-true w (2 ^ lanes n) h) (λ h. pow_pos (lanes n))

taken_fits : (n w : ℕ) → taken n w < 2 ^ 64
taken_fits n w = omega (arith, taken_within n w, pow_mono {i = lanes n} {j = 64} (lanes_most n))

taken_same : (n w : ℕ) → w < 2 ^ lanes n → taken n w ≡ w
taken_same n w h = cond-true (is_in_hand n w) w 0 (lt-ltb w (2 ^ lanes n) h)

-- a word in hand is a sign of the function that its bits say
means : (n k w : ℕ) (f : ℕ → Bool) → w < 2 ^ lanes n → ((t : ℕ) → word_bit w (t % lanes n) ≡ f t) → Means (block_meaning n k) w f
means n k w f within says = record {
  hand = lt-ltb w (2 ^ lanes n) within;
  value = fun_ext (λ t. ap (λ (x : ℕ). word_bit x (t % lanes n)) (taken_same n w within) ∙ says t);
}

formed : (n k w : ℕ) (f : ℕ → Bool) → w < 2 ^ lanes n → ((t : ℕ) → word_bit w (t % lanes n) ≡ f t) → Forms n k f w
formed n k w f within says = forming (block_meaning n k) f w refl (λ u held. held) (means n k w f within says)

-- two words have one value exactly if they are taken as one word
pub same_word : (n a b : ℕ) → Decides (eqb (taken n a) (taken n b)) (valued n a ≡ valued n b)
same_word n a b = (
  (λ e. ap {B = ℕ → Bool} (λ (w t : ℕ). word_bit w (t % lanes n)) (eqb-true (taken n a) (taken n b) e)),
  (λ same. eq-eqb (taken n a) (taken n b) (word same)),
)
  where
    at : (j : ℕ) → j < lanes n → (w : ℕ) → valued n w j ≡ word_bit (taken n w) j
    at j below w = ap (word_bit (taken n w)) (mod-eq_of_lt below)

    word : valued n a ≡ valued n b → taken n a ≡ taken n b
    word same = same_bits (lanes n) (taken n a) (taken n b) (taken_within n a) (taken_within n b)
        (λ j below. sym (at j below a) ∙ ap (λ (f : ℕ → Bool). f j) same ∙ at j below b)

-- all ones of 64, cut to l of them
pub ones_cut : (l : ℕ) → l ≤ 64 → (2 ^ 64 - 1) / 2 ^ (64 - l) ≡ 2 ^ l - 1
ones_cut l most =
    let all : 64 ≡ l + (64 - l) = omega arith in
    ap (λ (e : ℕ). (2 ^ e - 1) / 2 ^ (64 - l)) all
    ∙ ap (λ (x : ℕ). x / 2 ^ (64 - l)) (ones_split l (64 - l))
    ∙ shr_high (2 ^ l - 1) (64 - l) (2 ^ (64 - l) - 1) (ones_lt (64 - l))

-- a word cut to the lanes
pub cut_within : (n w : ℕ) → bit_and (2 ^ lanes n - 1) w < 2 ^ lanes n
cut_within n w = omega (arith, and_le_l (2 ^ lanes n - 1) w, pow_pos (lanes n))

pub cut_bit : (n w j : ℕ) → j < lanes n → word_bit (bit_and (2 ^ lanes n - 1) w) j ≡ word_bit w j
cut_bit n w j below = and_bit (2 ^ lanes n - 1) w j ∙ ap (λ (b : Bool). b && word_bit w j) (ones_bit (lanes n) j below)

-- ---- join, meet and complement

pub joined : (n k a b : ℕ) → Forms n k (functions.join (valued n a) (valued n b)) (bit_or (taken n a) (taken n b))
joined n k a b = formed n k (bit_or (taken n a) (taken n b)) _
    (or_lt (lanes n) (taken n a) (taken n b) (taken_within n a) (taken_within n b))
    (λ t. or_bit (taken n a) (taken n b) (t % lanes n))

pub met : (n k a b : ℕ) → Forms n k (functions.meet (valued n a) (valued n b)) (bit_and (taken n a) (taken n b))
met n k a b = formed n k (bit_and (taken n a) (taken n b)) _
    (omega (arith, and_le_l (taken n a) (taken n b), taken_within n a))
    (λ t. and_bit (taken n a) (taken n b) (t % lanes n))

pub one_means : (n k : ℕ) → Means (block_meaning n k) (2 ^ lanes n - 1) functions.one
one_means n k = means n k (2 ^ lanes n - 1) _ (ones_lt (lanes n)) (λ t. ones_bit (lanes n) (t % lanes n) (mod-lt t (lanes_some n)))

pub complemented : (n k a : ℕ)
    → (f : ℕ → Bool) × IsComplement (λ (g : ℕ → Bool) (t : ℕ). g t) (valued n a) f
    × Forms n k f (bit_and (2 ^ lanes n - 1) ((2 ^ 64 - 1) - taken n a))
complemented n k a = ((λ t. not (valued n a t)), (λ t. refl), formed n k (bit_and (2 ^ lanes n - 1) flipped) _ (cut_within n flipped) says)
  where
    flipped : ℕ
    flipped = (2 ^ 64 - 1) - taken n a

    says : (t : ℕ) → word_bit (bit_and (2 ^ lanes n - 1) flipped) (t % lanes n) ≡ not (word_bit (taken n a) (t % lanes n))
    says t =
        let below : t % lanes n < lanes n = mod-lt t (lanes_some n) in
        cut_bit n flipped (t % lanes n) below ∙ not_bit 64 (taken n a) (t % lanes n) (taken_fits n a) (omega (arith, lanes_most n))

-- ---- the first setting

-- the value at a listed setting is the bit at its place
at_place : (n k a j : ℕ) → 64 * k < 2 ^ n → j < lanes n → valued n a (64 * k + j) ≡ word_bit (taken n a) j
at_place n k a j exists below = ap (word_bit (taken n a)) (placed n k j exists below)

pub first_set : (n k a : ℕ) → 64 * k < 2 ^ n → 0 < taken n a
    → First (valued n a) (range_with_len (64 * k) (lanes n)) (Some (64 * k + count_trailing_zeros 64 (taken n a)))
first_set n k a exists some = (listed_at (64 * k) (lanes n) j below, at_place n k a j exists below ∙ found.set, before)
  where
    j : ℕ
    j = count_trailing_zeros 64 (taken n a)

    found : Lowest 64 (taken n a) j
    found = trailing_lowest 64 (taken n a) some (taken_fits n a)

    below : j < lanes n
    below = ⊎_elim (λ h. h)
        (λ far. absurd (both_ways (word_bit (taken n a) j) (past_bit (taken n a) (lanes n) j (taken_within n a) far) found.set))
        (cases_lt j (lanes n))

    before : (t : ℕ) → In t (range_with_len (64 * k) (lanes n)) → t < 64 * k + j → valued n a t ≡ false
    before t listed sooner = let place = listed_place (64 * k) (lanes n) t listed in
        ap (valued n a) place.2 ∙ at_place n k a place.0 exists place.1 ∙ found.clear place.0 (omega (arith, place.2))

-- ---- the bits of settings, and the inputs

pub setting_low : (k j p : ℕ) → p < 6 → word_bit (64 * k + j) p ≡ word_bit j p
setting_low k j p low = let same : 64 * k + j ≡ k * 2 ^ 6 + j = omega arith in
    ap (λ (x : ℕ). word_bit x p) same ∙ low_bit 6 p k j low

pub setting_high : (k j p : ℕ) → 6 ≤ p → j < 64 → word_bit (64 * k + j) p ≡ word_bit k (p - 6)
setting_high k j p high below =
    let same : 64 * k + j ≡ k * 2 ^ 6 + j = omega arith in
    let parts : p ≡ 6 + (p - 6) = omega arith in
    ap₂ word_bit same parts ∙ high_bit 6 (p - 6) k j below

-- a word in hand with the bits of input i is its function
pub reads_input : (n k i w : ℕ) → w < 2 ^ lanes n → ((j : ℕ) → j < lanes n → word_bit w j ≡ (ltb i n && setting_bit n (64 * k + j) i))
    → (f : ℕ → Bool) × IsInput (λ (g : ℕ → Bool) (t : ℕ). g t) (block_meaning n k) i f × Forms n k f w
reads_input n k i w within says = (
  (λ t. word_bit w (t % lanes n)),
  (λ t. says (t % lanes n) (mod-lt t (lanes_some n)) ∙ ap (λ (s : ℕ). ltb i n && setting_bit n s i) (sym (seen_at n k t))),
  formed n k w _ within (λ t. refl),
)
