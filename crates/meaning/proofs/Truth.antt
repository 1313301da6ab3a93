-- Bits that tell whether a fact holds. Assumes nothing.
use Rattle.std.proofs.Common.{◌≡◌, ℕ, ◌<◌, Bool, true, false, not, ◌&&◌, ◌||◌, eqb, ltb, ◌⊎◌, List, [], ◌∷◌, sym, refl, subst, inl, inr, ⊎_elim}
use mathlib.Core.Bool.{false≢true}
use Rattle.std.proofs.lemmas.Bool.{eqb-true, eq-eqb, ltb-true, lt-ltb}
use Rattle.cell.specs.declared.State.{State}
use Rattle.cell.specs.Lists.{In}
use Rattle.cell.specs.States.{MayBe}

abbrev pub Either : Type 0 → Type 0
Either X = X ⊎ (¬ X)

pub false_true : ¬ (false ≡ true)
false_true = false≢true

pub true_same : (a b : Bool) → (a ≡ true → b ≡ true) → (b ≡ true → a ≡ true) → a ≡ b
true_same true b f g = sym (f refl)
true_same false true f g = g refl
true_same false false f g = refl

pub state_same : (a b : State Bool) → ((v : Bool) → MayBe v a → MayBe v b) → ((v : Bool) → MayBe v b → MayBe v a) → a ≡ b
state_same a b f g = λ i. record {
  may0 = true_same a.may0 b.may0 (f false) (g false) i;
  may1 = true_same a.may1 b.may1 (f true) (g true) i;
}

-- the bit is true exactly where the fact holds
pub record Tells (b : Bool) (X : Type 0) : Type 0 where
  pub to : b ≡ true → X
  pub from : X → b ≡ true

pub either : (b : Bool) {X : Type 0} → Tells b X → Either X
either true t = inl (t.to refl)
either false t = inr (λ x. false_true (t.from x))

pub tells_map : {b : Bool} {X Y : Type 0} → (X → Y) → (Y → X) → Tells b X → Tells b Y
tells_map f g t = record { to = λ e. f (t.to e); from = λ y. t.from (g y) }

pub tells_no : {X : Type 0} → ¬ X → Tells false X
tells_no n = record { to = λ e. absurd (false_true e); from = λ x. absurd (n x) }

pub tells_yes : Tells true (Unit {0})
tells_yes = record { to = λ _. tt; from = λ _. refl }

pub tells_not : (b : Bool) {X : Type 0} → Tells b X → Tells (not b) (¬ X)
tells_not true t = tells_no (λ n. n (t.to refl))
tells_not false t = record { to = λ _ x. false_true (t.from x); from = λ _. refl }

pub tells_and : (a b : Bool) {X Y : Type 0} → Tells a X → Tells b Y → Tells (a && b) (X × Y)
tells_and true b s t = tells_map (λ y. (s.to refl, y)) (λ p. p.1) t
tells_and false b s t = tells_no (λ p. false_true (s.from p.0))

pub tells_or : (a b : Bool) {X Y : Type 0} → Tells a X → Tells b Y → Tells (a || b) (X ⊎ Y)
tells_or true b s t = record { to = λ _. inl (s.to refl); from = λ _. refl }
tells_or false b s t = tells_map inr (⊎_elim (λ x. absurd (false_true (s.from x))) (λ y. y)) t

pub tells_equal : (a b : ℕ) → Tells (eqb a b) (a ≡ b)
tells_equal a b = record { to = eqb-true a b; from = eq-eqb a b }

pub tells_less : (a b : ℕ) → Tells (ltb a b) (a < b)
tells_less a b = record { to = ltb-true a b; from = lt-ltb a b }

abbrev pub among : ℕ → List ℕ → Bool
among x [] = false
among x (y ∷ ys) = eqb x y || among x ys

pub tells_among : (x : ℕ) (ys : List ℕ) → Tells (among x ys) (In x ys)
tells_among x [] = tells_no (λ h. h)
tells_among x (y ∷ ys) = tells_or (eqb x y) (among x ys) (tells_equal x y) (tells_among x ys)

-- some element of a list
abbrev pub Any : {X : Type 0} → (X → Type 0) → List X → Type 0
Any {X} Q xs = (x : X) × In x xs × Q x

abbrev pub any_of : {X : Type 0} → (X → Bool) → List X → Bool
any_of q [] = false
any_of q (x ∷ xs) = q x || any_of q xs

pub tells_any : {X : Type 0} (q : X → Bool) (Q : X → Type 0) → ((x : X) → Tells (q x) (Q x)) → (xs : List X) → Tells (any_of q xs) (Any Q xs)
tells_any q Q t [] = tells_no (λ a. a.1)
tells_any {X} q Q t (x ∷ xs) = tells_map join (λ a. split a.0 a.1 a.2) (tells_or (q x) (any_of q xs) (t x) (tells_any q Q t xs))
  where
    join : Q x ⊎ Any Q xs → Any Q (x ∷ xs)
    join (inl h) = (x, inl refl, h)
    join (inr a) = (a.0, inr a.1, a.2)

    split : (y : X) → In y (x ∷ xs) → Q y → Q x ⊎ Any Q xs
    split y (inl e) h = inl (subst Q e h)
    split y (inr k) h = inr (y, k, h)

-- whether a state may be a bit
abbrev pub may : Bool → State Bool → Bool
may false st = st.may0
may true st = st.may1

pub tells_may : (b : Bool) (st : State Bool) → Tells (may b st) (MayBe b st)
tells_may false st = record { to = λ e. e; from = λ e. e }
tells_may true st = record { to = λ e. e; from = λ e. e }

pub dec_may : (b : Bool) (st : State Bool) → Either (MayBe b st)
dec_may b st = either (may b st) (tells_may b st)
