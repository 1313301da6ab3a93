-- The text of a lawful circuit is read as that circuit. Assumes nothing.
use Rattle.std.proofs.Common.{◌≡◌, ℕ, ◌+◌, ◌<◌, ◌≤◌, true, ◌&&◌, ◌||◌, leb, List, [], ◌∷◌, ◌++◌, map, length, Ok, Err, codes, decimal, Result, sym, refl, ap, ◌∙◌, append_assoc, append-nil, arith, length-append}
use lib.ListN.{length-map}
use Rattle.std.specs.Option.{ok_or}
use Rattle.std.specs.List.{flat_map, join_with_byte, list_all}
use Rattle.std.proofs.lemmas.Bool.{le-leb, lt-leb, le-ltb, and_from, or_from, cond-true, cond-false}
use Rattle.cell.specs.Lists.{Along}
use Rattle.cell.specs.Circuits.{Circuit, Numbered, FreshIn}
use Rattle.text.specs.declared.fault.Fault.{Fault}
use Rattle.text.specs.declared.fault.Reason.TheVariants.{TextTooLong, MalformedLine, UnknownWord, FieldCount, BadField, TooManyRecords}
use Rattle.text.specs.Faults.{fault}
use Rattle.text.specs.Outcomes.{and_then, map_ok}
use Rattle.text.specs.Split.{split}
use Rattle.text.specs.Lines.{field_formed, formed, placed}
use Rattle.text.proofs.Splits.{split_cons, placed_length}
use Rattle.text.proofs.Rows.{split_row, cut_row}
use Rattle.records.specs.Formats.{Format, NetAt}
use Rattle.records.specs.declared.Stage.{Stage}
use Rattle.records.specs.declared.Stage.TheVariants.{Opening, Inputs, Outputs, Body, Closed}
use Rattle.records.specs.declared.Word.TheVariants.{Out, Item, End}
use Rattle.records.specs.Numbers.{spells_name}
use Rattle.records.specs.Records.{Entry, cell, input, output, item, finish, turned, net_at, nets_at, entry_of, record_of, values}
use Rattle.records.proofs.Spelling.{net_spelled, name_field}
use Rattle.files.specs.Reading.{blank, member, rail, pushed, added, line_read, Ended, if_closed, lines_read, up_to_end}
use Rattle.files.specs.Written.{row, cell_row, in_row, out_row, item_row, written}
use Rattle.files.specs.Lawful.{FreshOut, Lawful}
use Rattle.files.proofs.Facts.{FormatFacts}
use Rattle.files.proofs.Members.{not_listed}
use Rattle.files.proofs.Short.{written_short}

-- fields of net numbers

net_from : (n p v : ℕ) → v ≤ 127 → net_at n (record { place = p; bytes = decimal v }) ≡ Ok (record { place = p; value = v })
net_from n p v h = ap (λ o. map_ok (λ w. record { place = p; value = w }) (ok_or o (fault BadField n p))) (net_spelled v h).number

abbrev nets_from : ℕ → List ℕ → List NetAt
nets_from p [] = []
nets_from p (x ∷ xs) = record { place = p; value = x } ∷ nets_from (p + length (decimal x) + 1) xs

nets_from_lem : (n p : ℕ) (xs : List ℕ) → Numbered xs → nets_at n (placed p (map decimal xs)) ≡ Ok (nets_from p xs)
nets_from_lem n p [] h = refl
nets_from_lem n p (x ∷ xs) h =
    let q = p + length (decimal x) + 1 in
    ap (λ r. and_then r (λ y. map_ok (λ ys. y ∷ ys) (nets_at n (placed q (map decimal xs))))) (net_from n p x h.0)
    ∙ ap (map_ok (λ ys. record { place = p; value = x } ∷ ys)) (nets_from_lem n q xs h.1)

values_from : (p : ℕ) (xs : List ℕ) → values (nets_from p xs) ≡ xs
values_from p [] = refl
values_from p (x ∷ xs) = ap (λ r. x ∷ r) (values_from (p + length (decimal x) + 1) xs)

nets_formed : (xs : List ℕ) → Numbered xs → list_all field_formed (map decimal xs) ≡ true
nets_formed [] h = refl
nets_formed (x ∷ xs) h = and_from _ _ (net_spelled x h.0).field (nets_formed xs h.1)

-- what was read last: s before the first of a list, then t
abbrev since : {X : Type 0} → Stage → Stage → List X → Stage
since s t [] = s
since s t (x ∷ xs) = t

since_more : {X : Type 0} (s t : Stage) (xs : List X) (x : X) → since s t (xs ++ x ∷ []) ≡ t
since_more s t [] x = refl
since_more s t (y ∷ ys) x = refl

since_some : {X : Type 0} (s t : Stage) (xs : List X) → 1 ≤ length xs → since s t xs ≡ t
since_some s t [] h = absurd (omega arith)
since_some s t (x ∷ xs) h = refl

-- a run of records that are read one after another; `at` reads from a line and a place on
module _ {X Z : Type 0} (g : X → List ℕ) (Q : List X → X → Type 0) (most : ℕ) (at : List X → ℕ → ℕ → List ℕ → Z)
    (step : (done : List X) (x : X) (rest : List ℕ) (n p : ℕ) → Q done x → length done < most → (m : ℕ) × (q : ℕ) × (at done n p (g x ++ rest) ≡ at (done ++ x ∷ []) m q rest)) where
  -- from a list that is done, the rest of its rows
  abbrev Runs : List X → List X → List ℕ → ℕ → ℕ → Type 0
  Runs xs done tail n p = (m : ℕ) × (q : ℕ) × (at done n p (flat_map g xs ++ tail) ≡ at (done ++ xs) m q tail)

  run_more : (x : X) (xs done : List X) (tail : List ℕ) (n p m q : ℕ) → at done n p (g x ++ (flat_map g xs ++ tail)) ≡ at (done ++ x ∷ []) m q (flat_map g xs ++ tail) → Runs xs (done ++ x ∷ []) tail m q → Runs (x ∷ xs) done tail n p
  run_more x xs done tail n p m q e more = (
    more.0,
    more.1,
    ap (at done n p) (append_assoc (g x) (flat_map g xs) tail) ∙ e ∙ more.2 ∙ ap (λ d. at d more.0 more.1 tail) (append_assoc done (x ∷ []) xs),
  )

  run : (xs done : List X) (tail : List ℕ) (n p : ℕ) → Along Q done xs → length done + length xs ≤ most → Runs xs done tail n p
  run [] done tail n p a l = (n, p, ap (λ d. at d n p tail) (sym (append-nil done)))
  run (x ∷ xs) done tail n p a l =
      let one = step done x (flat_map g xs ++ tail) n p a.0 (omega arith) in
      run_more x xs done tail n p one.0 one.1 one.2 (run xs (done ++ x ∷ []) tail one.0 one.1 a.1 (simp length-append (omega arith)))

grouped : (a b o d e : List ℕ) → (a ++ (b ++ (o ++ d))) ++ e ≡ a ++ (b ++ (o ++ (d ++ e)))
grouped a b o d e = simp append_assoc

module _ {K I : Type 0} (f : Format K I) where
  abbrev plan : List ℕ → List ℕ → List ℕ → List I → Circuit I
  plan n i o b = record { name = n; ins = i; outs = o; body = b }

  -- a row is read as its record, and the reading goes on
  row_done : (g : List ℕ) (fs : List (List ℕ)) (rest : List ℕ) (s t : Stage) (c d : Circuit I) (e : Entry K) (n p : ℕ) → list_all field_formed (g ∷ fs) ≡ true → record_of f s n p (placed p (g ∷ fs)) ≡ Ok (t, e) → added f c n p e ≡ Ok d
      → lines_read f s c n p (split 10 (row (g ∷ fs) ++ rest))
      ≡ if_closed t (Ok (record { circuit = d; line = n; place = p; next = p + length (join_with_byte 9 (g ∷ fs)) + 1; rest = split 10 rest })) (lines_read f t d (n + 1) (p + length (join_with_byte 9 (g ∷ fs)) + 1) (split 10 rest))
  row_done g fs rest s t c d e n p a r h =
      let l = join_with_byte 9 (g ∷ fs) in
      let q = p + length l + 1 in
      let next : List (List ℕ) → Stage × Circuit I → Result (Ended I) Fault = λ ls u. if_closed u.0 (Ok (record { circuit = u.1; line = n; place = p; next = q; rest = ls })) (lines_read f u.0 u.1 (n + 1) q ls) in
      let fields = split_row g fs a in
      let good : formed l ≡ true = ap (list_all field_formed) fields ∙ a in
      let step : line_read f s c n p l ≡ Ok (t, d) =
      cond-true (formed l) _ (Err (fault MalformedLine n p)) good
      ∙ ap (λ u. and_then (record_of f s n p (placed p u)) (λ r. map_ok (λ d. (r.0, d)) (added f c n p r.1))) fields
      ∙ ap (λ u. and_then u (λ r. map_ok (λ d. (r.0, d)) (added f c n p r.1))) r
      ∙ ap (map_ok (λ d. (t, d))) h in
      ap (λ u. lines_read f s c n p (split 10 u)) (append_assoc l (10 ∷ []) rest)
      ∙ ap (lines_read f s c n p) (cut_row g fs rest a)
      ∙ split_cons (λ ls. lines_read f s c n p (l ∷ ls) ≡ and_then (line_read f s c n p l) (next ls)) (λ m ms. refl) 10 rest
      ∙ ap (λ u. and_then u (next (split 10 rest))) step

  -- the reading of a text from line n and place p on
  abbrev from : Stage → Circuit I → ℕ → ℕ → List ℕ → Result (Ended I) Fault
  from s c n p text = lines_read f s c n p (split 10 text)

  cell_done : (bs rest : List ℕ) → spells_name bs ≡ true → from Opening blank 1 0 (cell_row bs ++ rest) ≡ from Inputs (plan bs [] [] []) 2 (0 + length (join_with_byte 9 (codes "CELL" ∷ bs ∷ [])) + 1) rest
  cell_done bs rest h =
      row_done (codes "CELL") (bs ∷ []) rest Opening Inputs blank (plan bs [] [] []) (cell bs) 1 0
      (and_from true (field_formed bs && true) refl (and_from (field_formed bs) true (name_field bs h) refl))
      (ap (λ r. map_ok (λ e. (Inputs, e)) (map_ok cell r)) (cond-true (spells_name bs) (Ok bs) (Err (fault BadField 1 5)) h))
      refl

  in_done : (name ins : List ℕ) (x : ℕ) (rest : List ℕ) (n p : ℕ) → FreshIn ins x → length ins < 16
      → (m : ℕ) × (q : ℕ) × (from Inputs (plan name ins [] []) n p (in_row x ++ rest) ≡ from Inputs (plan name (ins ++ x ∷ []) [] []) m q rest)
  in_done name ins x rest n p r k = (
    _,
    _,
    row_done (codes "IN") (decimal x ∷ []) rest Inputs Inputs (plan name ins [] []) (plan name (ins ++ x ∷ []) [] []) (input (record { place = p + 2 + 1; value = x })) n p
        (and_from true (field_formed (decimal x) && true) refl (and_from (field_formed (decimal x)) true (net_spelled x r.number).field refl))
        (ap (λ u. map_ok (λ e. (Inputs, e)) (map_ok input u)) (net_from n (p + 2 + 1) x r.number))
        (cond-false (leb 16 (length ins)) _ _ (lt-leb 16 (length ins) k) ∙ cond-false (rail x || member x ins) _ _ (or_from (rail x) (member x ins) (le-ltb x 2 r.no_rail) (not_listed x ins r.new))),
  )

  -- an OUT may come after the INs and after an OUT
  out_turn : (outs : List ℕ) (n p : ℕ) → turned {K = K} (since Inputs Outputs outs) Out n p ≡ Ok Outputs
  out_turn [] n p = refl
  out_turn (x ∷ xs) n p = refl

  out_done : (name ins outs : List ℕ) (x : ℕ) (rest : List ℕ) (n p : ℕ) → FreshOut ins outs x → length outs < 16
      → (m : ℕ) × (q : ℕ) × (from (since Inputs Outputs outs) (plan name ins outs []) n p (out_row x ++ rest) ≡ from (since Inputs Outputs (outs ++ x ∷ [])) (plan name ins (outs ++ x ∷ []) []) m q rest)
  out_done name ins outs x rest n p r k =
      let q = p + length (join_with_byte 9 (codes "OUT" ∷ decimal x ∷ [])) + 1 in (
        n + 1,
        q,
        row_done (codes "OUT") (decimal x ∷ []) rest (since Inputs Outputs outs) Outputs (plan name ins outs []) (plan name ins (outs ++ x ∷ []) []) (output (record { place = p + 3 + 1; value = x })) n p
            (and_from true (field_formed (decimal x) && true) refl (and_from (field_formed (decimal x)) true (net_spelled x r.number).field refl))
            (ap (λ t. and_then t (λ t. map_ok (λ e. (t, e)) (map_ok output (net_at n (record { place = p + 3 + 1; bytes = decimal x }))))) (out_turn outs n p) ∙ ap (λ u. map_ok (λ e. (Outputs, e)) (map_ok output u)) (net_from n (p + 3 + 1) x r.number))
            (cond-false (leb 16 (length outs)) _ _ (lt-leb 16 (length outs) k)
            ∙ cond-false (rail x || member x ins || member x outs) _ _ (or_from (rail x || member x ins) (member x outs) (or_from (rail x) (member x ins) (le-ltb x 2 r.no_rail) (not_listed x ins r.no_in)) (not_listed x outs r.new)))
            ∙ ap (λ s. from s (plan name ins (outs ++ x ∷ []) []) (n + 1) q rest) (sym (since_more Inputs Outputs outs x)),
      )

  -- a body record and END may come after an OUT and after a body record
  item_turn : (items : List I) (k : K) (n p : ℕ) → turned (since Outputs Body items) (Item k) n p ≡ Ok Body
  item_turn [] k n p = refl
  item_turn (x ∷ xs) k n p = refl

  end_turn : (items : List I) (n p : ℕ) → turned {K = K} (since Outputs Body items) End n p ≡ Ok Closed
  end_turn [] n p = refl
  end_turn (x ∷ xs) n p = refl

  end_done : (items : List I) (c : Circuit I) (n p : ℕ) → from (since Outputs Body items) c n p (row (codes "END" ∷ [])) ≡ Ok (record { circuit = c; line = n; place = p; next = p + 3 + 1; rest = [] ∷ [] })
  end_done items c n p =
      ap (from (since Outputs Body items) c n p) (sym (append-nil (row (codes "END" ∷ []))))
      ∙ row_done (codes "END") [] [] (since Outputs Body items) Closed c c finish n p refl (ap (λ r. and_then r (λ t. map_ok (λ e. (t, e)) (Ok finish))) (end_turn items n p)) refl

  module _ (facts : FormatFacts f) where
    item_record : (items : List I) (k : K) (xs : List ℕ) (n p : ℕ) → f.takes k (length xs) ≡ true → Numbered xs
        → record_of f (since Outputs Body items) n p (placed p (f.word k ∷ map decimal xs)) ≡ Ok (Body, item k (nets_from (p + length (f.word k) + 1) xs))
    item_record items k xs n p t h =
        let s = since Outputs Body items in
        let q = p + length (f.word k) + 1 in
        let fs = placed q (map decimal xs) in
        let many : length fs ≡ length xs = placed_length q (map decimal xs) ∙ length-map xs decimal in
        ap (λ o. and_then (ok_or o (fault UnknownWord n p)) (λ w. and_then (turned s w n p) (λ t. map_ok (λ e. (t, e)) (entry_of f n p w fs)))) (facts.found k)
        ∙ ap (λ r. and_then r (λ t. map_ok (λ e. (t, e)) (entry_of f n p (Item k) fs))) (item_turn items k n p)
        ∙ ap (λ r. map_ok (λ e. (Body, e)) (map_ok (item k) r)) (cond-true (f.takes k (length fs)) (nets_at n fs) (Err (fault FieldCount n p)) (ap (f.takes k) many ∙ t) ∙ nets_from_lem n q xs h)

    item_done : (name ins outs : List ℕ) (items : List I) (i : I) (rest : List ℕ) (n p : ℕ) → f.Rule ins items i → length items < f.most
        → (m : ℕ) × (q : ℕ) × (from (since Outputs Body items) (plan name ins outs items) n p (item_row f i ++ rest) ≡ from (since Outputs Body (items ++ i ∷ [])) (plan name ins outs (items ++ i ∷ [])) m q rest)
    item_done name ins outs items i rest n p r few =
        let k = f.kind i in
        let nets = f.nets i in
        let numbers = facts.numbered ins items i r in
        let xs = nets_from (p + length (f.word k) + 1) nets in
        let same : values xs ≡ nets = values_from (p + length (f.word k) + 1) nets in
        let q = p + length (join_with_byte 9 (f.word k ∷ map decimal nets)) + 1 in
        let wrap : List I → Circuit I = plan name ins outs in
        let put : pushed f items n k xs (f.barred ins items xs) ≡ Ok (items ++ i ∷ []) =
        ap (pushed f items n k xs) (facts.allowed ins items i r xs same) ∙ ap (λ j. Ok (items ++ j ∷ [])) (ap (f.item k) same ∙ facts.back i) in (
          n + 1,
          q,
          row_done (f.word k) (map decimal nets) rest (since Outputs Body items) Body (plan name ins outs items) (plan name ins outs (items ++ i ∷ [])) (item k xs) n p
              (and_from _ _ (facts.field k) (nets_formed nets numbers))
              (item_record items k nets n p (facts.takes ins items i r) numbers)
              (ap (map_ok wrap) (cond-false (leb f.most (length items)) (Err (fault TooManyRecords n p)) _ (lt-leb f.most (length items) few) ∙ put))
              ∙ ap (λ s. from s (plan name ins outs (items ++ i ∷ [])) (n + 1) q rest) (sym (since_more Outputs Body items i)),
        )

    -- c is read up to END, and nothing follows
    pub record Whole (c : Circuit I) (r : Result (Ended I) Fault) : Type 0 where
      pub line : ℕ
      pub place : ℕ
      pub next : ℕ
      pub is : r ≡ Ok (record { circuit = c; line = line; place = place; next = next; rest = [] ∷ [] })

    onward : (c : Circuit I) (r s : Result (Ended I) Fault) → r ≡ s → Whole c s → Whole c r
    onward c r s e w = record { line = w.line; place = w.place; next = w.next; is = e ∙ w.is }

    module _ (c : Circuit I) (law : Lawful f c) where
      -- the text from the body on, from the OUTs on, from the INs on
      abbrev from_body : List ℕ
      from_body = flat_map (item_row f) c.body ++ row (codes "END" ∷ [])

      abbrev from_outs : List ℕ
      from_outs = flat_map out_row c.outs ++ from_body

      abbrev from_ins : List ℕ
      from_ins = flat_map in_row c.ins ++ from_outs

      read_body : (n p : ℕ) → Whole c (from Outputs (plan c.name c.ins c.outs []) n p from_body)
      read_body n p =
          let few : 0 + length c.body ≤ f.most = omega (arith, law.few_items) in
          let d = run (item_row f) (f.Rule c.ins) f.most (λ done. from (since Outputs Body done) (plan c.name c.ins c.outs done)) (item_done c.name c.ins c.outs) c.body [] (row (codes "END" ∷ [])) n p law.body few in
          record { line = d.0; place = d.1; next = d.1 + 3 + 1; is = d.2 ∙ end_done c.body c d.0 d.1 }

      read_outs : (n p : ℕ) → Whole c (from Inputs (plan c.name c.ins [] []) n p from_outs)
      read_outs n p =
          let few : 0 + length c.outs ≤ 16 = omega (arith, law.few_outs) in
          let o = run out_row (FreshOut c.ins) 16 (λ done. from (since Inputs Outputs done) (plan c.name c.ins done [])) (out_done c.name c.ins) c.outs [] from_body n p law.outs few in
          onward c _ _ (o.2 ∙ ap (λ s. from s (plan c.name c.ins c.outs []) o.0 o.1 from_body) (since_some Inputs Outputs c.outs law.some_outs)) (read_body o.0 o.1)

      read_ins : (n p : ℕ) → Whole c (from Inputs (plan c.name [] [] []) n p from_ins)
      read_ins n p =
          let few : 0 + length c.ins ≤ 16 = omega (arith, law.few_ins) in
          let i = run in_row FreshIn 16 (λ done. from Inputs (plan c.name done [] [])) (in_done c.name) c.ins [] from_outs n p law.ins few in
          onward c _ _ i.2 (read_outs i.0 i.1)

      pub readable : Whole c (up_to_end f (written f c))
      readable =
          onward c _ _
          (cond-true (leb (length (written f c)) 32768) _ (Err (fault TextTooLong 0 0)) (le-leb (length (written f c)) 32768 (written_short f facts c law))
          ∙ ap (from Opening blank 1 0) (grouped (cell_row c.name) (flat_map in_row c.ins) (flat_map out_row c.outs) (flat_map (item_row f) c.body) (row (codes "END" ∷ [])))
          ∙ cell_done c.name from_ins law.name)
          (read_ins 2 (0 + length (join_with_byte 9 (codes "CELL" ∷ c.name ∷ [])) + 1))
