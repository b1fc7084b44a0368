-- The reading as the code goes it: one function for each part of an element that the code reads by itself.
use Rattle.std.specs.Prelude.{ℕ, ◌+◌, List, Bool}
use Rattle.table.specs.Rows.{Row, Content, Attribute, Table}
use Rattle.model.specs.Model.{Path, Answer, value, attribute, attributes, contents, rows, within, plan}
use Rattle.model.specs.Model.Plan.{done}
use Rattle.model.specs.Items.{Lengths}
use Rattle.model.specs.Read.{Room, read}

module _ (b : ℕ → ℕ) (mode : Lengths) (held : ℕ → Bool) (T : Table) where
  abbrev pub particle_at : ℕ → Row → Room → Path → ℕ → ℕ → Answer
  particle_at d row r π wall at = read b mode held (plan T d row done) r π wall at

  abbrev pub rounds_at : ℕ → ℕ → (ℕ → Row) → Room → Path → ℕ → ℕ → Answer
  rounds_at d n g r π wall at = read b mode held (rows (plan T d) n g done) r π wall at

  -- n consecutive rows from one on; a row n times
  abbrev pub children_at : ℕ → ℕ → ℕ → Room → Path → ℕ → ℕ → Answer
  children_at d n first r π wall at = rounds_at d n (λ i. T.row (first + i)) r π wall at

  abbrev pub repeats_at : ℕ → ℕ → ℕ → Room → Path → ℕ → ℕ → Answer
  repeats_at d n child r π wall at = rounds_at d n (λ i. T.row child) r π wall at

  abbrev pub value_at : ℕ → ℕ → ℕ → Room → Path → ℕ → ℕ → Answer
  value_at k x y r π wall at = read b mode held (value k x y done) r π wall at

  abbrev pub attribute_at : Attribute → Room → Path → ℕ → ℕ → Answer
  attribute_at a r π wall at = read b mode held (attribute a.must a done) r π wall at

  abbrev pub attributes_at : List Attribute → Room → Path → ℕ → ℕ → Answer
  attributes_at l r π wall at = read b mode held (attributes l done) r π wall at

  abbrev pub content_at : ℕ → Content → Room → Path → ℕ → ℕ → Answer
  content_at d c r π wall at = read b mode held (contents (plan T d) T.row c) r π wall at

  -- attributes, then content
  abbrev pub inside_at : ℕ → ℕ → Room → Path → ℕ → ℕ → Answer
  inside_at d t r π wall at = read b mode held (within T (plan T d) t) r π wall at
