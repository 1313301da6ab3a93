-- The state of one net from its row of the solved tables. Assumes nothing.
use Rattle.std.proofs.Common.{◌≡◌, ℕ, ◌+◌, ◌*◌, ◌<◌, ◌≤◌, Bool, true, false, not, ◌||◌, List, length, get_or, sym, ap, ◌∙◌, ap₂, arith}
use Rattle.std.proofs.lemmas.List.{get_or-map}
use Rattle.algebra.specs.Chain.{Chain}
use Rattle.algebra.specs.Holding.{Meaning, Stays, Means}
use Rattle.algebra.specs.Signals.{Boolean, IsComplement}
use Rattle.paths.specs.Solving.{system}
use Rattle.forming.specs.Signs.{InHand, values, side}
use Rattle.forming.specs.Components.{NetFormed}
use Rattle.paths.proofs.Holding.{stays_then}
use Rattle.forming.proofs.Raising.{table_fits}
use Rattle.cell.proofs.Members.{every_place}

-- a place in the rows of a component's table is inside it
in_rows : (nets columns size r : ℕ) → nets ≤ 24 → columns ≤ 2 → 640 ≤ size → r < (nets + columns) * nets → r < size
in_rows nets columns size r few own room inside = omega (arith, inside, room, table_fits nets columns few own)

-- a sign read from the table of a component in hand means the value that stands there
pub read : {S V : Type 0} (m : Meaning S V) (v : V) (xs : List S) → InHand m xs → (nets columns : ℕ) → nets ≤ 24 → columns ≤ 2 → 640 ≤ length xs
    → (i j : ℕ) (d : S) → i < (nets + columns) * nets → i ≡ j → Means m (get_or xs i d) (get_or (values m xs) j v)
read m v xs h nets columns few own room i j d inside is =
    let l = in_rows nets columns (length xs) i few own room inside in
    record {
      hand = every_place (λ z. m.hand z ≡ true) xs i d l h;
      value = sym (get_or-map m.value xs i d v l) ∙ ap (λ k. get_or (values m xs) k v) is;
    }

-- the complement of what drives the net is joined with what it reaches, first for 1 and then for 0
pub row_formed : {S V : Type 0} (A : Chain V) (bit : V → ℕ → Bool) → Boolean A bit
    → (m m1 m2 m3 : Meaning S V) (nets net : ℕ) (may sure : List S) (driven loose reached1 reached0 may1 may0 : S) (v : V)
    → Means m driven ((system A nets 1 (values m sure) 0).own net)
    → Means m reached1 ((system A nets 2 (values m may) 0).own net) → Means m reached0 ((system A nets 2 (values m may) 1).own net)
    → IsComplement bit (m.value driven) v → Stays m m1 → Means m1 loose v
    → Stays m1 m2 → Means m2 may1 (A.join (m1.value loose) (m1.value reached1))
    → Stays m2 m3 → Means m3 may0 (A.join (m2.value loose) (m2.value reached0))
    → NetFormed A bit m m3 nets net may sure (record { may0 = may0; may1 = may1 })
row_formed {V = V} A bit B m m1 m2 m3 nets net may sure driven loose reached1 reached0 may1 may0 v d r1 r0 not_d st1 l st2 is1 st3 is0 = record {
  stays = stays_then st1 (stays_then st2 st3);
  hand = both;
  one = λ t. bits t (st3.value may1 is1.hand ∙ is1.value) l.value (st1.value reached1 r1.hand ∙ r1.value);
  zero = λ t. bits t is0.value (st2.value loose l.hand ∙ l.value) ((stays_then st1 st2).value reached0 r0.hand ∙ r0.value);
}
  where
    bits : (t : ℕ) {x y z w : V} → x ≡ A.join y z → y ≡ v → z ≡ w → bit x t ≡ (not (bit ((system A nets 1 (values m sure) 0).own net) t) || bit w t)
    bits t {x} {y} {z} e f g =
        ap (λ u. bit u t) e ∙ B.join_bit y z t
        ∙ ap₂ ◌||◌ (ap (λ u. bit u t) f ∙ not_d t ∙ ap (λ u. not (bit u t)) d.value) (ap (λ u. bit u t) g)

    both : (b : Bool) → m3.hand (side b (record { may0 = may0; may1 = may1 })) ≡ true
    both false = is0.hand
    both true = st3.hand may1 is1.hand
