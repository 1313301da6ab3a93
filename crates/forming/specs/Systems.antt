-- The systems of nets that stand for the devices of a component. Assumes nothing.
use Rattle.std.specs.Prelude.{◌≡◌, ℕ, ◌+◌, ◌*◌, ◌<◌, ◌≤◌, Bool, true, false, ◌≢◌, ◌⊎◌, ◌↔◌, List, [], ◌∷◌, ◌++◌, length, Some, None, Option, slice_index, slice_index_or}
use Rattle.cell.specs.declared.Device.{Device}
use Rattle.cell.specs.Lists.{In, Distinct}
use Rattle.cell.specs.Circuits.{Numbered}
use Rattle.cell.specs.Waiting.{Links}
use Rattle.cell.specs.States.{MayBe, MayConduct, SurelyConducts}
use Rattle.algebra.specs.Chain.{Chain}
use Rattle.algebra.specs.Holding.{Meaning, Stays}
use Rattle.paths.specs.Paths.{System}
use Rattle.paths.specs.Solving.{system}
use Rattle.forming.specs.declared.tables.Reach.{Reach}
use Rattle.forming.specs.declared.tables.Reach.TheVariants.{Link, Drive, Loop}
use Rattle.forming.specs.Signs.{InHand, values, shown}

-- A system stands, where values are read at t, for the devices ds with the property Q: two nets are linked where such a device has
-- them as its ends, and a net's own value is 1 where such a device leads out of the component to a net with the property R.
-- Net p of the system is the one at place p of the component.
pub record Stands {V : Type 0} (bit : V → ℕ → Bool) (ds : List Device) (nets : List ℕ) (E : System V) (t : ℕ) (Q : Device → Type 0) (R : ℕ → Type 0) : Type 0 where
  pub link : (p q : ℕ) → p < length nets → q < length nets → p ≢ q
      → (bit (E.link p q) t ≡ true) ↔ ((d : Device) × In d ds × Links d (slice_index nets p) (slice_index nets q) × Q d)
  pub own : (p : ℕ) → p < length nets
      → (bit (E.own p) t ≡ true) ↔ ((d : Device) × (y : ℕ) × In d ds × Links d (slice_index nets p) y × (¬ (In y nets)) × R y × Q d)

-- The two tables of a component stand for the devices ds: one for those that may conduct, with an own column for sources that may
-- be 1 and one for those that may be 0, and one for those that surely conduct.
pub record Tabled {S V : Type 0} (A : Chain V) (bit : V → ℕ → Bool) (m : Meaning S V) (states : List S) (nets : List ℕ) (may sure : List S) (ds : List Device) : Type 0 where
  pub ones : (t : ℕ) → Stands bit ds nets (system A (length nets) 2 (values m may) 0) t (MayConduct (shown bit m states t)) (λ y. MayBe true (shown bit m states t y))
  pub zeros : (t : ℕ) → Stands bit ds nets (system A (length nets) 2 (values m may) 1) t (MayConduct (shown bit m states t)) (λ y. MayBe false (shown bit m states t y))
  pub sures : (t : ℕ) → Stands bit ds nets (system A (length nets) 1 (values m sure) 0) t (SurelyConducts (shown bit m states t)) (λ y. Unit {0})

-- signs in hand keep their meaning while two tables are worked on
pub record Worked {S V : Type 0} (m m' : Meaning S V) (may may' sure sure' : List S) : Type 0 where
  pub stays : Stays m m'
  pub may_hand : InHand m' may'
  pub sure_hand : InHand m' sure'
  pub may_long : length may' ≡ length may
  pub sure_long : length sure' ≡ length sure

-- what may be formed: a component of at most 24 nets, none of them twice
pub record Formable (nets : List ℕ) : Type 0 where
  pub distinct : Distinct nets
  pub numbered : Numbered nets
  pub few : length nets ≤ 24

-- The cells of P, by row and column, are joined with the value of a sign; the others stay.
pub record Raised {S V : Type 0} (A : Chain V) (bit : V → ℕ → Bool) (m m' : Meaning S V) (nets width : ℕ) (P : ℕ → ℕ → Type 0) (s : S) (xs ys : List S) : Type 0 where
  pub stays : Stays m m'
  pub hand : InHand m' ys
  pub long : length ys ≡ length xs
  pub cells : (t a b : ℕ) → a < nets → b < width
      → (bit (slice_index_or (values m' ys) (a * width + b) A.zero) t ≡ true)
      ↔ ((bit (slice_index_or (values m xs) (a * width + b) A.zero) t ≡ true) ⊎ (P a b × (bit (m.value s) t ≡ true)))

-- one more device is taken up
pub record TakesUp {S V : Type 0} (A : Chain V) (bit : V → ℕ → Bool) (m m' : Meaning S V) (states : List S) (nets : List ℕ) (d : Device) (may may' sure sure' : List S) : Type 0 where
  pub worked : Worked m m' may may' sure sure'
  pub tabled : (ds : List Device) → Tabled A bit m states nets may sure ds → Tabled A bit m' states nets may' sure' (ds ++ d ∷ [])

-- all devices are taken up
pub record Filled {S V : Type 0} (A : Chain V) (bit : V → ℕ → Bool) (m m' : Meaning S V) (states : List S) (nets : List ℕ) (ds : List Device) (may may' sure sure' : List S) : Type 0 where
  pub worked : Worked m m' may may' sure sure'
  pub tabled : Tabled A bit m' states nets may' sure' ds

-- the place of a net in a list
abbrev pub PlacedIn : List ℕ → ℕ → Option ℕ → Type 0
PlacedIn nets x (Some p) = (p < length nets) × (slice_index nets p ≡ x)
PlacedIn nets x None = ¬ (In x nets)

-- how a device with an end among the nets of a component lies to them: it links two of them, leads from one of them outside, or has
-- both ends on one of them
abbrev pub Reached : List ℕ → Device → Reach → Type 0
Reached nets d (Link p q) = (p < length nets) × (q < length nets) × (p ≢ q) × (slice_index nets p ≡ d.left) × (slice_index nets q ≡ d.right)
Reached nets d (Drive p y) = (p < length nets) × Links d (slice_index nets p) y × (¬ (In y nets))
Reached nets d Loop = (d.left ≡ d.right) × In d.left nets

-- a device has no end among the nets of a component
abbrev pub Apart : List ℕ → Device → Type 0
Apart nets d = (¬ (In d.left nets)) × (¬ (In d.right nets))
