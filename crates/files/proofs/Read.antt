-- What a record that is read says of its fields. Assumes nothing.
use Rattle.std.proofs.Common.{◌≡◌, ℕ, ◌≤◌, Bool, true, false, cond, List, [], ◌∷◌, length, Some, None, Ok, codes, decimal, Option, sym, refl, ap, ◌∙◌, subst}
use Rattle.std.specs.Option.{ok_or, option_map}
use Rattle.std.specs.Str.{bytes_eq}
use Rattle.std.proofs.lemmas.Slice.Eq.{bytes_eq-Decides}
use Rattle.cell.specs.Lists.{Every}
use Rattle.text.specs.declared.fault.Reason.TheVariants.{UnknownWord, OutOfTurn, FieldCount, BadField}
use Rattle.text.specs.Faults.{fault}
use Rattle.text.specs.Outcomes.{and_then, map_ok}
use Rattle.text.specs.Lines.{Part, only_one, is_nil}
use Rattle.text.proofs.Steps.{err_ok, off_on, none_some, same_ok, same_some, then_ok, map_ok_lem, or_ok, yes_ok}
use Rattle.text.proofs.Rows.{raw}
use Rattle.records.specs.Formats.{Format, NetAt}
use Rattle.records.specs.declared.Stage.{Stage}
use Rattle.records.specs.declared.Word.{Word}
use Rattle.records.specs.declared.Word.TheVariants.{Cell, In, Out, Item, End}
use Rattle.records.specs.Numbers.{spells_name}
use Rattle.records.specs.Records.{looked, head_word, or_else, word_of, last_read, may_follow, turned, Entry, cell, input, output, item, finish, single_field, net_at, nets_at, name_at, nets_counted, entry_of, record_of}
use Rattle.records.proofs.Spelling.{net_at_lem, NetFields, nets_at_lem}

only_one_lem : (fs : List Part) (f : Part) → only_one fs ≡ Some f → fs ≡ f ∷ []
only_one_lem [] f h = cc
only_one_lem (a ∷ []) f h = cc
only_one_lem (a ∷ b ∷ r) f h = cc

no_fields : (fs : List Part) → is_nil fs ≡ true → raw fs ≡ []
no_fields [] h = refl
no_fields (f ∷ fs) h = off_on h

-- where a word is found, the field is the word
found : {W : Type 0} (spelled : W → List ℕ) (t : Bool) (w v : W) (o : Option W) (bs : List ℕ) → (t ≡ true → bs ≡ spelled w) → (o ≡ Some v → bs ≡ spelled v) → cond t (Some w) o ≡ Some v → bs ≡ spelled v
found spelled true w v o bs e more h = e refl ∙ ap spelled (same_some w v h)
found spelled false w v o bs e more h = more h

found_word : {W : Type 0} (word spelled : W → List ℕ) (ws : List W) (bs : List ℕ) (v : W) → Every (λ w. word w ≡ spelled w) ws → looked word ws bs ≡ Some v → bs ≡ spelled v
found_word word spelled [] bs v n h = none_some v h
found_word word spelled (w ∷ ws) bs v n h = found spelled (bytes_eq bs (word w)) w v (looked word ws bs) bs (λ t. (bytes_eq-Decides bs (word w)).0 t ∙ n.0) (found_word word spelled ws bs v n.1) h

every_same : {W : Type 0} (word : W → List ℕ) (ws : List W) → Every (λ w. word w ≡ word w) ws
every_same word [] = tt
every_same word (w ∷ ws) = (refl, every_same word ws)

module _ {K I : Type 0} (f : Format K I) where
  abbrev pub spelled : Word K → List ℕ
  spelled Cell = codes "CELL"
  spelled In = codes "IN"
  spelled Out = codes "OUT"
  spelled (Item k) = f.word k
  spelled End = codes "END"

  -- the fields after the word
  abbrev pub After : Word K → Entry K → List (List ℕ) → Type 0
  After Cell e fs = (bs : List ℕ) × (e ≡ cell bs) × (fs ≡ bs ∷ []) × (spells_name bs ≡ true)
  After In e fs = (x : NetAt) × (e ≡ input x) × (fs ≡ decimal x.value ∷ []) × (x.value ≤ 127)
  After Out e fs = (x : NetAt) × (e ≡ output x) × (fs ≡ decimal x.value ∷ []) × (x.value ≤ 127)
  After (Item k) e fs = (xs : List NetAt) × (e ≡ item k xs) × NetFields fs xs × (f.takes k (length xs) ≡ true)
  After End e fs = (e ≡ finish) × (fs ≡ [])

  one_net : (n p : ℕ) (fs : List Part) (g : NetAt → Entry K) (e : Entry K) → and_then (single_field n p fs) (λ x. map_ok g (net_at n x)) ≡ Ok e → (x : NetAt) × (e ≡ g x) × (raw fs ≡ decimal x.value ∷ []) × (x.value ≤ 127)
  one_net n p fs g e h =
      let o = then_ok (single_field n p fs) (λ x. map_ok g (net_at n x)) e h in
      let m = map_ok_lem g (net_at n o.0) e o.2 in
      let is = only_one_lem fs o.0 (or_ok (only_one fs) (fault FieldCount n p) o.0 o.1) in
      let x = net_at_lem n o.0 m.0 m.1 in
      (m.0, sym m.2, ap raw is ∙ ap (λ b. b ∷ []) x.spelled, x.small)

  after : (n p : ℕ) (w : Word K) (fs : List Part) (e : Entry K) → entry_of f n p w fs ≡ Ok e → After w e (raw fs)
  after n p Cell fs e h =
      let o = then_ok (single_field n p fs) (λ x. map_ok cell (name_at n x)) e h in
      let m = map_ok_lem cell (name_at n o.0) e o.2 in
      let is = only_one_lem fs o.0 (or_ok (only_one fs) (fault FieldCount n p) o.0 o.1) in
      let name = yes_ok (spells_name o.0.bytes) (Ok o.0.bytes) (fault BadField n o.0.place) m.0 m.1 in
      let same = same_ok o.0.bytes m.0 name.1 in
      (m.0, sym m.2, ap raw is ∙ ap (λ b. b ∷ []) same, subst (λ b. spells_name b ≡ true) same name.0)
  after n p In fs e h = one_net n p fs input e h
  after n p Out fs e h = one_net n p fs output e h
  after n p (Item k) fs e h =
      let m = map_ok_lem (item k) (nets_counted (f.takes k) n p fs) e h in
      let y = yes_ok (f.takes k (length fs)) (nets_at n fs) (fault FieldCount n p) m.0 m.1 in
      let xs = nets_at_lem n fs m.0 y.1 in
      (m.0, sym m.2, xs.0, ap (f.takes k) (sym xs.1) ∙ y.0)
  after n p End fs e h =
      let q = yes_ok (is_nil fs) (Ok finish) (fault FieldCount n p) e h in
      (sym (same_ok finish e q.1), no_fields fs q.0)

  either_word : (o : Option (Word K)) (q : Option K) (bs : List ℕ) (w : Word K) → ((v : Word K) → o ≡ Some v → bs ≡ spelled v) → ((k : K) → q ≡ Some k → bs ≡ f.word k) → or_else o (option_map Item q) ≡ Some w → bs ≡ spelled w
  either_word (Some v) q bs w a b h = a w h
  either_word None None bs w a b h = none_some w h
  either_word None (Some k) bs w a b h = b k refl ∙ ap spelled (same_some (Item k) w h)

  word_is : (bs : List ℕ) (w : Word K) → word_of f bs ≡ Some w → bs ≡ spelled w
  word_is bs w h =
      either_word (looked head_word (Cell ∷ In ∷ Out ∷ End ∷ []) bs) (looked f.word f.kinds bs) bs w
      (λ v. found_word head_word spelled (Cell ∷ In ∷ Out ∷ End ∷ []) bs v (refl, (refl, (refl, (refl, tt)))))
      (λ k. found_word f.word f.word f.kinds bs k (every_same f.word f.kinds))
      h

  pub record Read (s t : Stage) (e : Entry K) (fs : List (List ℕ)) : Type 0 where
    pub word : Word K
    pub rest : List (List ℕ)
    pub turn : may_follow s word ≡ true
    pub next : last_read word ≡ t
    pub fields : fs ≡ spelled word ∷ rest
    pub entry : After word e rest

  said : (s : Stage) (n p : ℕ) (w : Part) (fs : List Part) (r : Stage × Entry K) (word : Word K) (t : Stage) (e : Entry K) → word_of f w.bytes ≡ Some word → turned s word n p ≡ Ok t → entry_of f n p word fs ≡ Ok e → (t, e) ≡ r → Read s r.0 r.1 (raw (w ∷ fs))
  said s n p w fs r word t e o u m is =
      let y = yes_ok (may_follow s word) (Ok (last_read word)) (fault OutOfTurn n p) t u in
      record {
        word = word;
        rest = raw fs;
        turn = y.0;
        next = same_ok (last_read word) t y.1 ∙ ap (λ (q : Stage × Entry K). q.0) is;
        fields = ap (λ b. b ∷ raw fs) (word_is w.bytes word o);
        entry = subst (λ (q : Stage × Entry K). After word q.1 (raw fs)) is (after n p word fs e m);
      }

  pub read_record : (s : Stage) (n p : ℕ) (ps : List Part) (r : Stage × Entry K) → record_of f s n p ps ≡ Ok r → Read s r.0 r.1 (raw ps)
  read_record s n p [] r h = err_ok _ _ h
  read_record s n p (w ∷ fs) r h =
      let o = then_ok (ok_or (word_of f w.bytes) (fault UnknownWord n p)) (λ w. and_then (turned s w n p) (λ t. map_ok (λ e. (t, e)) (entry_of f n p w fs))) r h in
      let u = then_ok (turned s o.0 n p) (λ t. map_ok (λ e. (t, e)) (entry_of f n p o.0 fs)) r o.2 in
      let m = map_ok_lem (λ e. (u.0, e)) (entry_of f n p o.0 fs) r u.2 in
      said s n p w fs r o.0 u.0 m.0 (or_ok (word_of f w.bytes) (fault UnknownWord n p) o.0 o.1) u.1 m.1 m.2
