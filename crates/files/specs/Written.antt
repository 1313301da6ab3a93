-- A circuit as text. Assumes nothing.
use Rattle.std.specs.Prelude.{ℕ, List, [], ◌∷◌, ◌++◌, map, codes, decimal}
use Rattle.std.specs.List.{flat_map, join_with_byte}
use Rattle.cell.specs.Circuits.{Circuit}
use Rattle.records.specs.Formats.{Format}

-- a record: its fields with tabs between, and a line feed
abbrev pub row : List (List ℕ) → List ℕ
row fs = join_with_byte 9 fs ++ 10 ∷ []

abbrev pub cell_row : List ℕ → List ℕ
cell_row bs = row (codes "CELL" ∷ bs ∷ [])

abbrev pub in_row : ℕ → List ℕ
in_row v = row (codes "IN" ∷ decimal v ∷ [])

abbrev pub out_row : ℕ → List ℕ
out_row v = row (codes "OUT" ∷ decimal v ∷ [])

abbrev pub item_row : {K I : Type 0} → Format K I → I → List ℕ
item_row f i = row (f.word (f.kind i) ∷ map decimal (f.nets i))

-- the rows before the last
abbrev pub rows : {K I : Type 0} → Format K I → Circuit I → List ℕ
rows f c = cell_row c.name ++ (flat_map in_row c.ins ++ (flat_map out_row c.outs ++ flat_map (item_row f) c.body))

abbrev pub written : {K I : Type 0} → Format K I → Circuit I → List ℕ
written f c = rows f c ++ row (codes "END" ∷ [])
