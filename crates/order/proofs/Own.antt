-- Labels while each net gets its own number, and inner nets are told. Assumes nothing.
use Rattle.std.proofs.Common.{◌≡◌, ℕ, ◌+◌, ◌<◌, ◌≤◌, ◌⊎◌, Bool, true, false, not, List, All, length, get_or, set, replicate, ◌∙◌, subst, sym, refl, ap, ⊎_elim, arith}
use Rattle.std.proofs.lemmas.List.{get_or-set_same, get_or-set_other, length-set}
use Rattle.std.proofs.lemmas.List.Elements.{All-replicate, All-set}
use Rattle.std.proofs.lemmas.Bool.{cases_Bool}
use Rattle.cell.specs.Lists.{In}
use Rattle.cell.proofs.Finite.{same}
use Rattle.order.proofs.Members.{get_or_replicated}

-- the nets below n are gone to
pub record Own (ins : List ℕ) (n : ℕ) (numbers : List ℕ) (inner : List Bool) : Type 0 where
  pub source : (x : ℕ) → (x < 2) ⊎ In x ins → get_or inner x false ≡ false
  pub told : (x : ℕ) → x < n → ¬ ((x < 2) ⊎ In x ins) → get_or inner x false ≡ true
  pub own : (x : ℕ) → x < n → get_or numbers x 0 ≡ x
  pub long : length numbers ≡ 128
  pub wide : length inner ≡ 128
  pub low : All (λ number. number ≤ 127) numbers

pub own_none : (ins : List ℕ) → Own ins 0 (replicate 128 0) (replicate 128 false)
own_none ins =
    record {
      source = λ x s. get_or_replicated 128 x false;
      told = λ x h s. absurd (omega arith);
      own = λ x h. absurd (omega arith);
      long = refl;
      wide = refl;
      low = All-replicate (λ number. number ≤ 127) 128 0 (omega arith);
    }

pub own_more : (ins : List ℕ) (n : ℕ) (numbers : List ℕ) (inner : List Bool) (s : Bool) → n < 128
    → (s ≡ true → (n < 2) ⊎ In n ins) → ((n < 2) ⊎ In n ins → s ≡ true)
    → Own ins n numbers inner → Own ins (n + 1) (set numbers n n) (set inner n (not s))
own_more ins n numbers inner s lt is was O =
    record {
      source = λ x h.
          ⊎_elim
          (λ e.
          subst (λ v. get_or (set inner n (not s)) v false ≡ false) (sym e)
          (get_or-set_same inner n (not s) false (omega (arith, O.wide)) ∙ ap not (was (subst (λ v. (v < 2) ⊎ In v ins) e h))))
          (λ ne. get_or-set_other inner n x (not s) false ne ∙ O.source x h)
          (same x n);
      told = λ x h i.
          ⊎_elim
          (λ e.
          subst (λ v. get_or (set inner n (not s)) v false ≡ true) (sym e)
          (get_or-set_same inner n (not s) false (omega (arith, O.wide))
          ∙ ap not (⊎_elim (λ t. absurd (i (subst (λ v. (v < 2) ⊎ In v ins) (sym e) (is t)))) (λ f. f) (cases_Bool s))))
          (λ ne. get_or-set_other inner n x (not s) false ne ∙ O.told x (omega arith) i)
          (same x n);
      own = λ x h.
          ⊎_elim
          (λ e. subst (λ v. get_or (set numbers n n) v 0 ≡ v) (sym e) (get_or-set_same numbers n n 0 (omega (arith, O.long))))
          (λ ne. get_or-set_other numbers n x n 0 ne ∙ O.own x (omega arith))
          (same x n);
      long = length-set numbers n n ∙ O.long;
      wide = length-set inner n (not s) ∙ O.wide;
      low = All-set (λ number. number ≤ 127) numbers n n (omega arith) O.low;
    }
