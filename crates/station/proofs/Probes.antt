-- The answers of calls on a net of the drawn circuit. Assumes nothing.
use Rattle.std.proofs.Common.{◌≡◌, ℕ, ◌+◌, ◌*◌, ◌%◌, ◌^◌, ◌<◌, ◌≤◌, Bool, true, false, cond, [], ◌∷◌, length, get_or, MatchOption, Some, None, Ok, Err, Option, Result, Bor, sym, refl, ap, ◌∙◌, subst, ⊎_elim, mod-eq_of_lt, arith}
use Rattle.std.specs.Option.{ok_or}
use Rattle.std.specs.Result.{result_ok}
use Rattle.cell.specs.declared.State.{State}
use Rattle.cell.specs.Circuits.{Drawn}
use Rattle.cell.specs.States.{States}
use Rattle.meaning.proofs.Exists.{has_states}
use Rattle.text.specs.declared.fault.Fault.{Fault}
use Rattle.text.specs.declared.fault.Reason.TheVariants.{CircuitAbsent, WorkTableShort, OutOfRange}
use Rattle.text.specs.Faults.{fault}
use Rattle.std.specs.List.{range_with_len}
use Rattle.std.proofs.lemmas.Bool.{cases_lt, lt-ltb, le-ltb}
use Rattle.text.proofs.Steps.{err_ok, none_some, same_some, or_ok, if_some}
use Rattle.algebra.specs.declared.point.Point.{Point}
use Rattle.algebra.specs.declared.block.Block.{Block}
use Rattle.algebra.specs.Made.{Made, Samples, Setting, Stretch}
use Rattle.algebra.specs.Kinds.{point_meaning, block_meaning, lanes, is_in_hand, taken, word_bit}
use Rattle.algebra.specs.Signals.{seen}
use Rattle.algebra.proofs.Listed.{seen_at}
use Rattle.netlist.specs.Circuits.{circuit_of}
use Rattle.netlist.specs.declared.netlist.Netlist.{Netlist}
use Rattle.circuits.specs.declared.devices.Devices.{Devices}
use Rattle.circuits.specs.Bodies.{devices_of}
use Rattle.station.specs.declared.slot.Slot.{Slot}
use Rattle.station.specs.Slots.{holds}
use Rattle.station.specs.Sound.{Sound}
use Rattle.station.specs.Probes.{Answered, HasState, Looked, Probed, Surveyed, Read, at_bit}
use Rattle.station.proofs.Answering.{current}
use Rattle.station.specs.Probes.Answered.{absent, short, no_net, missing, done}
use Rattle.station.proofs.Usable.{usable}

-- an answer that says one thing of a circuit says another
pub answered_so : {R : Type 0} (Exists Exists' : Drawn → Type 0) (Is Is' : Drawn → R → Type 0) (size x : ℕ) (d : Option Drawn) (r : Result R Fault)
    → ((c : Drawn) → d ≡ Some c → (Exists c → Exists' c) × (Exists' c → Exists c) × ((u : R) → Exists c → Is c u → Is' c u))
    → Answered Exists Is size x d r → Answered Exists' Is' size x d r
answered_so Exists Exists' Is Is' size x None (Err f) so absent = absent
answered_so {R = R} Exists Exists' Is Is' size x None (Ok u) so h = elim h [ ]
answered_so Exists Exists' Is Is' size x (Some c) (Err f) so (short d small) = short c small
answered_so Exists Exists' Is Is' size x (Some c) (Err f) so (no_net d large high) = no_net c large high
answered_so Exists Exists' Is Is' size x (Some c) (Err f) so (missing d large low none) = missing c large low (λ h. none ((so c refl).1 h))
answered_so Exists Exists' Is Is' size x (Some c) (Ok u) so (done d v large low exists is) = done c u large low ((so c refl).0 exists) ((so c refl).2 u exists is)

pub or_err : {X E : Type 0} (o : Option X) (e d : E) → ok_or o e ≡ Err d → (o ≡ None) × (d ≡ e)
or_err {E = E} None e d h = (refl, let same : ◌≡◌ {A = E} d e = cc in same)
or_err (Some x) e d h = err_ok d x (sym h)

-- whether a slot holds a circuit, from what it lends
module _ {E : Type 0} (slot : Slot Devices) (o : Option (Bor (Netlist Devices))) (reason : E)
    (says : MatchOption o (slot.held ≡ false) (λ n. (slot.held ≡ true) × (n.now ≡ slot.current))) (r : Result (Bor (Netlist Devices)) E) (is : r ≡ ok_or o reason) where
  pub is_held : (n : Bor (Netlist Devices)) → r ≡ Ok n → (slot.held ≡ true) × (n.now ≡ slot.current)
  is_held n at = subst (λ q. MatchOption q (slot.held ≡ false) (λ n. (slot.held ≡ true) × (n.now ≡ slot.current))) (or_ok o reason n (sym is ∙ at)) says

  pub is_absent : (e : E) → r ≡ Err e → (slot.held ≡ false) × (e ≡ reason)
  is_absent e at = let h = or_err o reason e (sym is ∙ at) in (subst (λ q. MatchOption q (slot.held ≡ false) (λ n. (slot.held ≡ true) × (n.now ≡ slot.current))) h.0 says, h.1)

-- whether an algebra was made
pub made_one : {A : Type 0} (Exists : Type 0) (Is : A → Type 0) (r : Result A Fault) (a : A) → Made Exists Is r → result_ok r ≡ Some a → Exists × Is a
made_one Exists Is (Ok b) a m h = (m.0, subst Is (same_some b a h) m.1)
made_one Exists Is (Err f) a m h = none_some a h

pub made_none : {A : Type 0} (Exists : Type 0) (Is : A → Type 0) (r : Result A Fault) → Made Exists Is r → result_ok r ≡ None → ¬ Exists
made_none Exists Is (Ok b) m h = none_some b (sym h)
made_none Exists Is (Err f) m h = m.0

module _ {R : Type 0} (Exists : Drawn → Type 0) (Is : Drawn → R → Type 0) (size x : ℕ) (slot : Slot Devices) where
  abbrev c : Drawn
  c = circuit_of devices_of slot.current

  -- an answer of the circuit that is held
  held_so : slot.held ≡ true → (r : Result R Fault) → Answered Exists Is size x (Some c) r → Answered Exists Is size x (holds devices_of slot) r
  held_so held r p = subst (λ b. Answered Exists Is size x (cond b (Some c) None) r) (sym held) p

  pub none_held : slot.held ≡ false → (f : Fault) → f ≡ fault CircuitAbsent 0 0 → Answered Exists Is size x (holds devices_of slot) (Err f)
  none_held none f is = subst (λ b. Answered Exists Is size x (cond b (Some c) None) (Err f)) (sym none) (subst (λ g. Answered Exists Is size x None (Err g)) (sym is) absent)

  pub too_short : slot.held ≡ true → size < 2048 → (f : Fault) → f ≡ fault WorkTableShort 0 0 → Answered Exists Is size x (holds devices_of slot) (Err f)
  too_short held small f is = held_so held (Err f) (subst (λ g. Answered Exists Is size x (Some c) (Err g)) (sym is) (short c small))

  pub above_nets : slot.held ≡ true → 2048 ≤ size → 127 < x → (f : Fault) → f ≡ fault OutOfRange 0 0 → Answered Exists Is size x (holds devices_of slot) (Err f)
  above_nets held large high f is = held_so held (Err f) (subst (λ g. Answered Exists Is size x (Some c) (Err g)) (sym is) (no_net c large high))

  pub not_there : slot.held ≡ true → 2048 ≤ size → x ≤ 127 → ¬ (Exists c) → (f : Fault) → f ≡ fault OutOfRange 0 0 → Answered Exists Is size x (holds devices_of slot) (Err f)
  not_there held large low none f is = held_so held (Err f) (subst (λ g. Answered Exists Is size x (Some c) (Err g)) (sym is) (missing c large low none))

  pub answered : slot.held ≡ true → 2048 ≤ size → x ≤ 127 → (r : R) → Exists c → Is c r → Answered Exists Is size x (holds devices_of slot) (Ok r)
  answered held large low r exists is = held_so held (Ok r) (done c r large low exists is)

-- a setting of a block is in one of its lanes
in_lanes : (n k j : ℕ) → 64 * k < 2 ^ n → j < 64 → 64 * k + j < 2 ^ n → j < lanes n
in_lanes n k j exists low within = ⊎_elim small large (cases_lt n 6)
  where
    small : n < 6 → j < lanes n
    small lt = subst (λ b. j < cond b (2 ^ n) 64) (sym (lt-ltb n 6 lt)) (omega (arith, within))

    large : 6 ≤ n → j < lanes n
    large le = subst (λ b. j < cond b (2 ^ n) 64) (sym (le-ltb n 6 le)) low

module _ (x : ℕ) (slot : Slot Devices) (sound : ∥ Sound slot ∥₁) (held : slot.held ≡ true) where
  abbrev cell : Drawn
  cell = circuit_of devices_of slot.current

  has_state : (s : ℕ) (st : State Bool) → ((σ : ℕ → State Bool) → States cell s σ → ((σ x).may0 ≡ st.may0) × ((σ x).may1 ≡ st.may1)) → HasState cell s x st
  has_state s st is =
      let facts = usable slot sound held in
      record {
        there = has_states cell facts.fresh facts.acyclic s;
        is = λ σ S. let both = is σ S in λ i. record { may0 = both.0 i; may1 = both.1 i };
      }

  -- what a point reads is the net's state
  pub read_point : (s : ℕ) (made left : Point) (st : State Bool) → made.setting ∷ [] ≡ s ∷ []
      → Read (λ v _. v) (point_meaning made.inputs made.setting) (point_meaning left.inputs left.setting) cell x st → HasState cell s x st
  read_point s made left st listed read =
      let same : made.setting ≡ s = ap (λ l. get_or l 0 0) listed in
      has_state s st (λ σ S. let at = subst (λ u. States cell u σ) (sym same) S in (read.zero 0 σ at, read.one 0 σ at))

  -- and so is each bit of what a block reads; n is the number of inputs
  pub read_block : (k n : ℕ) (made left : Block) (st : State ℕ) → made.inputs ≡ n → range_with_len (64 * made.block) (lanes made.inputs) ≡ range_with_len (64 * k) (lanes n)
      → 64 * k < 2 ^ n → Read (λ (f : ℕ → Bool) t. f t) (block_meaning made.inputs made.block) (block_meaning left.inputs left.block) cell x st
      → (j : ℕ) → j < 64 → 64 * k + j < 2 ^ n → HasState cell (64 * k + j) x (at_bit st j)
  read_block k n made left st inputs listed exists read j low within =
      has_state (64 * k + j) (at_bit st j) (λ σ S.
      let at : States cell (seen (range_with_len (64 * made.block) (lanes made.inputs)) j) σ = subst (λ u. States cell u σ) (sym seen_here) S in
      (read.zero j σ at ∙ bit_here st.may0 (read.hand false), read.one j σ at ∙ bit_here st.may1 (read.hand true)))
    where
      lane_of : (v : ℕ) → v ≡ n → j % lanes v ≡ j
      lane_of v e = mod-eq_of_lt (subst (λ u. j < lanes u) (sym e) (in_lanes n k j exists low within))

      seen_here : seen (range_with_len (64 * made.block) (lanes made.inputs)) j ≡ 64 * k + j
      seen_here = ap (λ l. seen l j) listed ∙ seen_at n k j ∙ ap (λ r. 64 * k + r) (lane_of n refl)

      bit_here : (w : ℕ) → is_in_hand left.inputs w ≡ true → word_bit (taken left.inputs w) (j % lanes left.inputs) ≡ word_bit w j
      bit_here w hand = ap (word_bit (taken left.inputs w)) (lane_of left.inputs (read.stays.inputs ∙ inputs)) ∙ ap (λ v. word_bit (cond v w 0) j) hand

-- what looking over a point gives, and over a block
module _ (x : ℕ) (slot : Slot Devices) (sound : ∥ Sound slot ∥₁) (size : ℕ) where
  -- a circuit that is held is the current one
  held_is : (c : Drawn) → holds devices_of slot ≡ Some c → slot.held ≡ true
  held_is c at = (if_some slot.held (Some (circuit_of devices_of slot.current)) c at).0

  pub probed : (s : ℕ) (r : Result (State Bool) Fault)
      → Looked Setting (λ n t. t ∷ []) (λ (p : Point). point_meaning p.inputs p.setting) (λ v _. v) size s x (holds devices_of slot) r → Probed size s x (holds devices_of slot) r
  probed s r =
      answered_so _ _ _ _ size x (holds devices_of slot) r (λ c at.
      let held = held_is c at in
      let few = (usable slot sound held).few in
      subst
      (λ (d : Drawn). (Setting (length d.ins) s → s < 2 ^ length d.ins) × (s < 2 ^ length d.ins → Setting (length d.ins) s)
      × ((u : State Bool) → Setting (length d.ins) s → ((made left : Point) × Samples (length d.ins) (s ∷ []) (point_meaning made.inputs made.setting) × Read (λ v _. v) (point_meaning made.inputs made.setting) (point_meaning left.inputs left.setting) d x u) → HasState d s x u))
      (current devices_of slot c at)
      (λ e. e.exists, λ e. record { few = few; exists = e }, λ u exists read. read_point x slot sound held s read.0 read.1 u read.2.listed read.3))

  pub surveyed : (k : ℕ) (r : Result (State ℕ) Fault)
      → Looked Stretch (λ n b. range_with_len (64 * b) (lanes n)) (λ (b : Block). block_meaning b.inputs b.block) (λ (f : ℕ → Bool) t. f t) size k x (holds devices_of slot) r
      → Surveyed size k x (holds devices_of slot) r
  surveyed k r =
      answered_so _ _ _ _ size x (holds devices_of slot) r (λ c at.
      let held = held_is c at in
      let few = (usable slot sound held).few in
      subst
      (λ (d : Drawn). (Stretch (length d.ins) k → 64 * k < 2 ^ length d.ins) × (64 * k < 2 ^ length d.ins → Stretch (length d.ins) k)
      × ((u : State ℕ) → Stretch (length d.ins) k → ((made left : Block) × Samples (length d.ins) (range_with_len (64 * k) (lanes (length d.ins))) (block_meaning made.inputs made.block) × Read (λ (f : ℕ → Bool) t. f t) (block_meaning made.inputs made.block) (block_meaning left.inputs left.block) d x u)
      → (j : ℕ) → j < 64 → 64 * k + j < 2 ^ length d.ins → HasState d (64 * k + j) x (at_bit u j)))
      (current devices_of slot c at)
      (λ e. e.exists, λ e. record { few = few; exists = e }, λ u there read. read_block x slot sound held k _ read.0 read.1 u read.2.inputs read.2.listed there.exists read.3))
