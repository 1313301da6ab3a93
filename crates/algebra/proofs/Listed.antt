-- The settings that a block lists, and their places. Assumes nothing.
use Rattle.std.proofs.Common.{◌≡◌, ℕ, zero, suc, ◌+◌, ◌-◌, ◌*◌, ◌%◌, ◌^◌, ◌<◌, ◌≤◌, false, ltb, ◌⊎◌, get_or, sym, ap, ◌∙◌, subst, inl, inr, ⊎_elim, mod-lt, mod-eq_of_lt, arith, pow_mono}
use Rattle.std.specs.List.{range_with_len}
use Rattle.std.proofs.lemmas.Nat.{pow_pos, pow-add}
use Rattle.std.proofs.lemmas.List.FromFn.{length-range_with_len, get_or-range_with_len}
use Rattle.std.proofs.lemmas.Bool.{lt-ltb, le-ltb, cases_lt, cond-true, cond-false, false≢true}
use Rattle.cell.specs.Lists.{In, Rising}
use Rattle.algebra.specs.Kinds.{block_meaning, lanes}
use Rattle.algebra.specs.Signals.{Listing, seen}

-- ---- how many settings are listed

lanes_cases : (n : ℕ) → ((n < 6) × (lanes n ≡ 2 ^ n)) ⊎ ((6 ≤ n) × (lanes n ≡ 64))
lanes_cases n = ⊎_elim
    (λ h. inl (h, cond-true (ltb n 6) (2 ^ n) 64 (lt-ltb n 6 h)))
    (λ h. inr (h, cond-false (ltb n 6) (2 ^ n) 64 (le-ltb n 6 h)))
    (cases_lt n 6)

pub lanes_some : (n : ℕ) → 0 < lanes n
lanes_some n = ⊎_elim (λ h. omega (arith, h.1, pow_pos n)) (λ h. omega (arith, h.1)) (lanes_cases n)

pub lanes_most : (n : ℕ) → lanes n ≤ 64
lanes_most n = ⊎_elim (λ h. omega (arith, h.1, pow_mono {i = n} {j = 6} (omega (arith, h.0)))) (λ h. omega (arith, h.1)) (lanes_cases n)

-- a block that exists has all its settings, and a setting's place is what it is modulo the lanes
whole : (n k : ℕ) → 64 * k < 2 ^ n → 64 * k + lanes n ≤ 2 ^ n
whole n k exists = ⊎_elim
    (λ h. omega (arith, h.1, pow_mono {i = n} {j = 5} (omega (arith, h.0))))
    (λ h. let parts : 2 ^ n ≡ 2 ^ (n - 6) * 64 = ap (λ (e : ℕ). 2 ^ e) (omega (arith, h.0)) ∙ pow-add 2 (n - 6) 6 in omega (arith, h.1))
    (lanes_cases n)

pub placed : (n k j : ℕ) → 64 * k < 2 ^ n → j < lanes n → (64 * k + j) % lanes n ≡ j
placed n k j exists below = ⊎_elim
    (λ h. let first : 64 * k + j ≡ j = omega (arith, pow_mono {i = n} {j = 5} (omega (arith, h.0))) in
    ap (λ (x : ℕ). x % lanes n) first ∙ mod-eq_of_lt below)
    (λ h. let inside : j < 64 = omega (arith, h.1) in ap (λ (l : ℕ). (64 * k + j) % l) h.1 ∙ omega arith)
    (lanes_cases n)

-- ---- the list

pub listed_at : (a n j : ℕ) → j < n → In (a + j) (range_with_len a n)
listed_at a zero j below = absurd (omega arith)
listed_at a (suc n) zero below = inl (omega arith)
listed_at a (suc n) (suc j) below = inr (subst (λ (x : ℕ). In x (range_with_len (a + 1) n)) (omega arith) (listed_at (a + 1) n j (omega arith)))

pub listed_place : (a n t : ℕ) → In t (range_with_len a n) → (j : ℕ) × (j < n) × (t ≡ a + j)
listed_place a zero t listed = absurd listed
listed_place a (suc n) t (inl e) = (0, omega arith, omega arith)
listed_place a (suc n) t (inr later) =
    let found = listed_place (a + 1) n t later in (suc found.0, omega (arith, found.1), omega (arith, found.2))

rises : (a n : ℕ) → Rising (range_with_len a n)
rises a zero = tt
rises a (suc n) = ((λ m later. let found = listed_place (a + 1) n m later in omega (arith, found.2)), rises (a + 1) n)

pub seen_at : (n k t : ℕ) → seen (range_with_len (64 * k) (lanes n)) t ≡ 64 * k + t % lanes n
seen_at n k t =
    ap (λ (l : ℕ). get_or (range_with_len (64 * k) (lanes n)) (t % l) 0) (length-range_with_len (64 * k) (lanes n))
    ∙ get_or-range_with_len (64 * k) (lanes n) (t % lanes n) 0 (mod-lt t (lanes_some n))

pub lists : (n k : ℕ) → n ≤ 16 → 64 * k < 2 ^ n → Listing false (block_meaning n k)
lists n k few exists = record {
  few = few;
  some = omega (arith, length-range_with_len (64 * k) (lanes n), lanes_some n);
  rising = rises (64 * k) (lanes n);
  settings = λ t listed. let found = listed_place (64 * k) (lanes n) t listed in omega (arith, found.1, found.2, whole n k exists);
  itself = λ t listed. let found = listed_place (64 * k) (lanes n) t listed in
      seen_at n k t
      ∙ ap (λ (x : ℕ). 64 * k + x % lanes n) found.2
      ∙ ap (λ (x : ℕ). 64 * k + x) (placed n k found.0 exists found.1)
      ∙ sym found.2;
  all = λ covers t below. absurd (false≢true covers);
}
