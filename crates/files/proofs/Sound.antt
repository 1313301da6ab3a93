-- What is read up to END keeps the rules, and the text so far is the one written of it. Assumes nothing.
use Rattle.std.proofs.Common.{◌≡◌, ℕ, ◌+◌, ◌<◌, ◌≤◌, true, ◌||◌, leb, List, [], ◌∷◌, ◌++◌, map, length, Some, None, Ok, codes, decimal, Option, Result, sym, refl, ap, ◌∙◌, subst, append_assoc, append-nil, arith, length-append}
use lib.ListN.{length-map}
use Rattle.std.specs.List.{flat_map, join_with_byte}
use Rattle.std.proofs.lemmas.List.{flat_map_more}
use Rattle.std.proofs.lemmas.Bool.{or_parts, leb-false, ltb-false}
use Rattle.cell.specs.Lists.{Along}
use Rattle.cell.specs.Circuits.{Circuit, FreshIn}
use Rattle.cell.proofs.Along.{along_push}
use Rattle.text.specs.declared.fault.Fault.{Fault}
use Rattle.text.specs.declared.fault.Reason.TheVariants.{MalformedLine}
use Rattle.text.specs.Faults.{fault}
use Rattle.text.specs.Outcomes.{and_then, map_ok}
use Rattle.text.specs.Split.{split}
use Rattle.text.specs.Lines.{formed, fields_of}
use Rattle.text.proofs.Steps.{err_ok, off_on, same_ok, then_ok, map_ok_lem, yes_ok, no_ok}
use Rattle.text.proofs.Rows.{join_split, raw, raw_placed}
use Rattle.records.specs.Formats.{Format, NetAt}
use Rattle.records.specs.declared.Stage.{Stage}
use Rattle.records.specs.declared.Stage.TheVariants.{Opening, Inputs, Outputs, Body, Closed}
use Rattle.records.specs.declared.Word.{Word}
use Rattle.records.specs.declared.Word.TheVariants.{Cell, In, Out, Item, End}
use Rattle.records.specs.Numbers.{spells_name}
use Rattle.records.specs.Records.{Entry, last_read, may_follow, record_of, values}
use Rattle.files.specs.Reading.{blank, member, rail, pushed, added_item, added, line_read, Ended, if_closed, lines_read}
use Rattle.files.specs.Written.{row, cell_row, in_row, out_row, item_row, rows, written}
use Rattle.files.specs.Lawful.{FreshOut}
use Rattle.files.proofs.Facts.{FormatFacts}
use Rattle.files.proofs.Members.{absent}
use Rattle.records.proofs.Spelling.{NetFields}
use Rattle.files.proofs.Read.{spelled, After, Read, read_record}

-- one row more, where none follows

row_more : {X : Type 0} (g : X → List ℕ) (a : List ℕ) (xs : List X) (x : X) (u : List ℕ) → u ≡ [] → (a ++ (flat_map g xs ++ u)) ++ g x ≡ a ++ (flat_map g (xs ++ x ∷ []) ++ u)
row_more g a xs x u e = subst (λ v. (a ++ (flat_map g xs ++ v)) ++ g x ≡ a ++ (flat_map g (xs ++ x ∷ []) ++ v)) (sym e)
    (ap (λ l. (a ++ l) ++ g x) (append-nil (flat_map g xs)) ∙ flat_map_more g a xs x ∙ ap (λ l. a ++ l) (sym (append-nil (flat_map g (xs ++ x ∷ [])))))

rows_out : {X : Type 0} (g : X → List ℕ) (a b : List ℕ) (xs : List X) (x : X) (u : List ℕ) → u ≡ [] → (a ++ (b ++ (flat_map g xs ++ u))) ++ g x ≡ a ++ (b ++ (flat_map g (xs ++ x ∷ []) ++ u))
rows_out g a b xs x u e = ap (λ l. l ++ g x) (sym (append_assoc a b (flat_map g xs ++ u))) ∙ row_more g (a ++ b) xs x u e ∙ append_assoc a b (flat_map g (xs ++ x ∷ []) ++ u)

apart : (a b o l : List ℕ) → a ++ (b ++ (o ++ l)) ≡ (a ++ (b ++ o)) ++ l
apart a b o l = ap (λ r. a ++ r) (sym (append_assoc b o l)) ∙ sym (append_assoc a (b ++ o) l)

rows_item : {X : Type 0} (g : X → List ℕ) (a b o : List ℕ) (xs : List X) (x : X) → (a ++ (b ++ (o ++ flat_map g xs))) ++ g x ≡ a ++ (b ++ (o ++ flat_map g (xs ++ x ∷ [])))
rows_item g a b o xs x = ap (λ l. l ++ g x) (apart a b o (flat_map g xs)) ∙ flat_map_more g (a ++ (b ++ o)) xs x ∙ sym (apart a b o (flat_map g (xs ++ x ∷ [])))

push_length : {X : Type 0} (xs : List X) (x : X) → length (xs ++ x ∷ []) ≡ length xs + 1
push_length xs x = length-append xs (x ∷ [])

abbrev with_body : {I : Type 0} → Circuit I → List I → Circuit I
with_body c items = record { name = c.name; ins = c.ins; outs = c.outs; body = items }

-- the rules but for the end's
pub record Rules {K I : Type 0} (f : Format K I) (c : Circuit I) : Type 0 where
  pub name : spells_name c.name ≡ true
  pub ins : Along FreshIn [] c.ins
  pub few_ins : length c.ins ≤ 16
  pub outs : Along (FreshOut c.ins) [] c.outs
  pub few_outs : length c.outs ≤ 16
  pub body : Along (f.Rule c.ins) [] c.body
  pub few_items : length c.body ≤ f.most

pub record Going {K I : Type 0} (f : Format K I) (c : Circuit I) (t : List ℕ) : Type 0 where
  pub rules : Rules f c
  pub text : t ≡ rows f c

pub record Done {K I : Type 0} (f : Format K I) (c : Circuit I) (t : List ℕ) : Type 0 where
  pub rules : Rules f c
  pub some_outs : 1 ≤ length c.outs
  pub text : t ≡ written f c

module _ {K I : Type 0} (f : Format K I) where
  -- what holds of the circuit and the text so far
  abbrev pub Hold : Stage → Circuit I → List ℕ → Type 0
  Hold Opening c t = (c ≡ blank) × (t ≡ [])
  Hold Inputs c t = Going f c t × (c.outs ≡ []) × (c.body ≡ [])
  Hold Outputs c t = Going f c t × (c.body ≡ []) × (1 ≤ length c.outs)
  Hold Body c t = Going f c t × (1 ≤ length c.outs)
  Hold Closed c t = Done f c t

  held_cell : (s : Stage) (c : Circuit I) (t : List ℕ) → may_follow {K = K} s Cell ≡ true → Hold s c t → (c ≡ blank) × (t ≡ [])
  held_cell Opening c t h k = k
  held_cell Inputs c t h k = off_on h
  held_cell Outputs c t h k = off_on h
  held_cell Body c t h k = off_on h
  held_cell Closed c t h k = off_on h

  held_in : (s : Stage) (c : Circuit I) (t : List ℕ) → may_follow {K = K} s In ≡ true → Hold s c t → Going f c t × (c.outs ≡ []) × (c.body ≡ [])
  held_in Opening c t h k = off_on h
  held_in Inputs c t h k = k
  held_in Outputs c t h k = off_on h
  held_in Body c t h k = off_on h
  held_in Closed c t h k = off_on h

  held_out : (s : Stage) (c : Circuit I) (t : List ℕ) → may_follow {K = K} s Out ≡ true → Hold s c t → Going f c t × (c.body ≡ [])
  held_out Opening c t h k = off_on h
  held_out Inputs c t h k = (k.0, k.2)
  held_out Outputs c t h k = (k.0, k.1)
  held_out Body c t h k = off_on h
  held_out Closed c t h k = off_on h

  held_end : (s : Stage) (c : Circuit I) (t : List ℕ) → may_follow {K = K} s End ≡ true → Hold s c t → Going f c t × (1 ≤ length c.outs)
  held_end Opening c t h k = off_on h
  held_end Inputs c t h k = off_on h
  held_end Outputs c t h k = (k.0, k.2)
  held_end Body c t h k = k
  held_end Closed c t h k = off_on h

  -- an item may come where END may
  like_end : (s : Stage) (x : K) → may_follow s (Item x) ≡ may_follow {K = K} s End
  like_end Opening x = refl
  like_end Inputs x = refl
  like_end Outputs x = refl
  like_end Body x = refl
  like_end Closed x = refl

  pushed_ok : (items : List I) (n : ℕ) (k : K) (xs : List NetAt) (o : Option ℕ) (ys : List I) → pushed f items n k xs o ≡ Ok ys → (o ≡ None) × (items ++ f.item k (values xs) ∷ [] ≡ ys)
  pushed_ok items n k xs None ys h = (refl, same_ok _ ys h)
  pushed_ok items n k xs (Some place) ys h = err_ok _ _ h

  module _ (facts : FormatFacts f) where
    item_grown : (c : Circuit I) (y : K) (xs : List NetAt) (fs : List (List ℕ)) (t : List ℕ) → Going f c t → NetFields fs xs → f.takes y (length xs) ≡ true → length c.body < f.most → f.barred c.ins c.body xs ≡ None
        → Going f (with_body c (c.body ++ f.item y (values xs) ∷ [])) (t ++ row (f.word y ∷ fs))
    item_grown c y xs fs t r nets takes few free =
        let i = f.item y (values xs) in
        let all : f.takes y (length (values xs)) ≡ true = ap (f.takes y) (length-map xs (λ x. x.value)) ∙ takes in
        let same : item_row f i ≡ row (f.word y ∷ map decimal (values xs)) = λ j. row (f.word (facts.kind_of y (values xs) all j) ∷ map decimal (facts.nets_of_lem y (values xs) all j)) in
        let rules = r.rules in
        record {
          rules = record {
            name = rules.name;
            ins = rules.ins;
            few_ins = rules.few_ins;
            outs = rules.outs;
            few_outs = rules.few_outs;
            body = along_push (f.Rule c.ins) [] c.body i rules.body (facts.ruled c.ins c.body y xs takes nets.numbers free);
            few_items = omega (arith, push_length c.body i);
          };
          text = (λ j. r.text j ++ row (f.word y ∷ nets.spelled j))
              ∙ ap (λ l. rows f c ++ l) (sym same)
              ∙ rows_item (item_row f) (cell_row c.name) (flat_map in_row c.ins) (flat_map out_row c.outs) c.body i;
        }

    grown : (w : Word K) (s : Stage) (c d : Circuit I) (n p : ℕ) (e : Entry K) (fs : List (List ℕ)) (t : List ℕ) → may_follow s w ≡ true → Hold s c t → After f w e fs → added f c n p e ≡ Ok d → Hold (last_read w) d (t ++ row (spelled f w ∷ fs))
    grown Cell s c d n p e fs t h k a g =
        let here = held_cell s c t h k in
        let new : record { name = a.0; ins = []; outs = []; body = [] } ≡ d =
        ap (λ (b : Circuit I). record { name = a.0; ins = b.ins; outs = b.outs; body = b.body }) (sym here.0) ∙ same_ok _ d (ap (added f c n p) (sym a.1) ∙ g) in
        subst (λ b. Hold Inputs b (t ++ row (codes "CELL" ∷ fs))) new (
          record {
            rules = record { name = a.3; ins = tt; few_ins = omega arith; outs = tt; few_outs = omega arith; body = tt; few_items = omega arith };
            text = (λ i. here.1 i ++ row (codes "CELL" ∷ a.2 i)) ∙ sym (append-nil (cell_row a.0));
          },
          refl,
          refl,
        )
    grown In s c d n p e fs t h k a g =
        let r = held_in s c t h k in
        let x = a.0.value in
        let room = no_ok (leb 16 (length c.ins)) _ _ d (ap (added f c n p) (sym a.1) ∙ g) in
        let free = no_ok (rail x || member x c.ins) _ _ d room.1 in
        let parts = or_parts (rail x) (member x c.ins) free.0 in
        let few = leb-false 16 (length c.ins) room.0 in
        let rules = r.0.rules in
        subst (λ b. Hold Inputs b (t ++ row (codes "IN" ∷ fs))) (same_ok _ d free.1) (
          record {
            rules = record {
              name = rules.name;
              ins = along_push FreshIn [] c.ins x rules.ins (record { no_rail = ltb-false x 2 parts.0; number = a.3; new = absent x c.ins parts.1 });
              few_ins = omega (arith, few, push_length c.ins x);
              outs = subst (λ o. Along (FreshOut (c.ins ++ x ∷ [])) [] o) (sym r.1) tt;
              few_outs = rules.few_outs;
              body = subst (λ b. Along (f.Rule (c.ins ++ x ∷ [])) [] b) (sym r.2) tt;
              few_items = rules.few_items;
            };
            text = (λ i. r.0.text i ++ row (codes "IN" ∷ a.2 i))
                ∙ row_more in_row (cell_row c.name) c.ins x (flat_map out_row c.outs ++ flat_map (item_row f) c.body) (λ i. flat_map out_row (r.1 i) ++ flat_map (item_row f) (r.2 i));
          },
          r.1,
          r.2,
        )
    grown Out s c d n p e fs t h k a g =
        let r = held_out s c t h k in
        let x = a.0.value in
        let room = no_ok (leb 16 (length c.outs)) _ _ d (ap (added f c n p) (sym a.1) ∙ g) in
        let free = no_ok (rail x || member x c.ins || member x c.outs) _ _ d room.1 in
        let both = or_parts (rail x || member x c.ins) (member x c.outs) free.0 in
        let parts = or_parts (rail x) (member x c.ins) both.0 in
        let few = leb-false 16 (length c.outs) room.0 in
        let rules = r.0.rules in
        subst (λ b. Hold Outputs b (t ++ row (codes "OUT" ∷ fs))) (same_ok _ d free.1) (
          record {
            rules = record {
              name = rules.name;
              ins = rules.ins;
              few_ins = rules.few_ins;
              outs = along_push (FreshOut c.ins) [] c.outs x rules.outs (record { no_rail = ltb-false x 2 parts.0; number = a.3; no_in = absent x c.ins parts.1; new = absent x c.outs both.1 });
              few_outs = omega (arith, few, push_length c.outs x);
              body = rules.body;
              few_items = rules.few_items;
            };
            text = (λ i. r.0.text i ++ row (codes "OUT" ∷ a.2 i))
                ∙ rows_out out_row (cell_row c.name) (flat_map in_row c.ins) c.outs x (flat_map (item_row f) c.body) (ap (flat_map (item_row f)) r.1);
          },
          r.1,
          omega (arith, push_length c.outs x),
        )
    grown (Item y) s c d n p e fs t h k a g =
        let r = held_end s c t (sym (like_end s y) ∙ h) k in
        let m = map_ok_lem (with_body c) (added_item f c.ins c.body n p y a.0) d (ap (added f c n p) (sym a.1) ∙ g) in
        let room = no_ok (leb f.most (length c.body)) _ _ m.0 m.1 in
        let put = pushed_ok c.body n y a.0 (f.barred c.ins c.body a.0) m.0 room.1 in
        let few = leb-false f.most (length c.body) room.0 in
        subst (λ b. Hold Body b (t ++ row (f.word y ∷ fs))) (ap (with_body c) put.1 ∙ m.2) (item_grown c y a.0 fs t r.0 a.2 a.3 few put.0, r.1)
    grown End s c d n p e fs t h k a g =
        let r = held_end s c t h k in
        subst (λ b. Hold Closed b (t ++ row (codes "END" ∷ fs))) (same_ok c d (ap (added f c n p) (sym a.0) ∙ g)) (record {
          rules = r.0.rules;
          some_outs = r.1;
          text = λ i. r.0.text i ++ row (codes "END" ∷ a.1 i);
        })

    line_added : (s : Stage) (c d : Circuit I) (n p : ℕ) (l : List ℕ) (r : Stage × Circuit I) (t : List ℕ) (u : Stage × Entry K) → Read f s u.0 u.1 (raw (fields_of p l)) → added f c n p u.1 ≡ Ok d → (u.0, d) ≡ r → Hold s c t → Hold r.0 r.1 (t ++ (l ++ 10 ∷ []))
    line_added s c d n p l r t u q g is k =
        let same : join_with_byte 9 (spelled f q.word ∷ q.rest) ≡ l = ap (join_with_byte 9) (sym q.fields ∙ raw_placed p (split 9 l)) ∙ join_split 9 l in
        let both : (last_read q.word, d) ≡ r = ap (λ v. (v, d)) q.next ∙ is in
        subst (λ (v : (Stage × Circuit I) × List ℕ). Hold v.0.0 v.0.1 (t ++ (v.1 ++ 10 ∷ []))) (λ i. (both i, same i))
        (grown q.word s c d n p u.1 q.rest t q.turn k q.entry g)

    line_grown : (s : Stage) (c : Circuit I) (n p : ℕ) (l : List ℕ) (r : Stage × Circuit I) (t : List ℕ) → line_read f s c n p l ≡ Ok r → Hold s c t → Hold r.0 r.1 (t ++ (l ++ 10 ∷ []))
    line_grown s c n p l r t h k =
        let y = yes_ok (formed l) (and_then (record_of f s n p (fields_of p l)) (λ q. map_ok (λ d. (q.0, d)) (added f c n p q.1))) (fault MalformedLine n p) r h in
        let o = then_ok (record_of f s n p (fields_of p l)) (λ q. map_ok (λ d. (q.0, d)) (added f c n p q.1)) r y.1 in
        let m = map_ok_lem (λ d. (o.0.0, d)) (added f c n p o.0.1) r o.2 in
        line_added s c m.0 n p l r t o.0 (read_record f s n p (fields_of p l) o.0 o.1) m.1 m.2 k

    -- at END, or at a line before it
    at_line : (s : Stage) (c : Circuit I) (t : List ℕ) (fin e : Ended I) (more : Result (Ended I) Fault) (Z : Type 0) → if_closed s (Ok fin) more ≡ Ok e → Hold s c t → (Done f c t → fin ≡ e → Z) → (Hold s c t → more ≡ Ok e → Z) → Z
    at_line Opening c t fin e more Z h k x y = y k h
    at_line Inputs c t fin e more Z h k x y = y k h
    at_line Outputs c t fin e more Z h k x y = y k h
    at_line Body c t fin e more Z h k x y = y k h
    at_line Closed c t fin e more Z h k x y = x k (same_ok fin e h)

    pub lines_done : (ls : List (List ℕ)) (s : Stage) (c : Circuit I) (n p : ℕ) (t : List ℕ) (e : Ended I) → lines_read f s c n p ls ≡ Ok e → Hold s c t
        → (u : List ℕ) × Done f e.circuit u × (t ++ join_with_byte 10 ls ≡ u ++ join_with_byte 10 e.rest)
    lines_done [] s c n p t e h k = err_ok _ _ h
    lines_done (l ∷ []) s c n p t e h k = err_ok _ _ h
    lines_done (l ∷ m ∷ ls) s c n p t e h k =
        let next = p + length l + 1 in
        let o = then_ok (line_read f s c n p l) (λ r. if_closed r.0 (Ok (record { circuit = r.1; line = n; place = p; next = next; rest = m ∷ ls })) (lines_read f r.0 r.1 (n + 1) next (m ∷ ls))) e h in
        let u = t ++ (l ++ 10 ∷ []) in
        let tail = join_with_byte 10 (m ∷ ls) in
        let join : t ++ join_with_byte 10 (l ∷ m ∷ ls) ≡ u ++ tail = ap (λ r. t ++ r) (sym (append_assoc l (10 ∷ []) tail)) ∙ sym (append_assoc t (l ++ 10 ∷ []) tail) in
        let E : Ended I → Type 0 = λ g. (u : List ℕ) × Done f g.circuit u × (t ++ join_with_byte 10 (l ∷ m ∷ ls) ≡ u ++ join_with_byte 10 g.rest) in
        at_line o.0.0 o.0.1 u _ e _ (E e) o.2 (line_grown s c n p l o.0 t o.1 k)
        (λ d is. subst E is (u, d, join))
        (λ d more. let z = lines_done (m ∷ ls) o.0.0 o.0.1 (n + 1) next u e more d in (z.0, z.1, join ∙ z.2))
