-- The reading as the code goes it: one function for a particle row, for rounds, for an attribute, for attributes, for a value, for content and
-- for what is inside an element; and what each is at each of its cases. A proof of code cites these laws and never sees a plan.
use Prim.Native.Nat.{ℕ, zero, suc, ◌+◌, ◌-◌}
use mathlib.Core.Path.{◌≡◌, refl, ◌∙◌}
use mathlib.Core.List.{List, [], ◌∷◌}
use mathlib.Core.Bool.{Bool, true, false}
use native.Mathlib.Omega.{arith}
use Rattle.numbers.specs.Refusal as refusal
use Rattle.numbers.specs.Kind as kinds
use Rattle.numbers.specs.Limit.{most_open}
use Rattle.wire.specs.Res.{Res, got, fault, ◌>>=◌}
use Rattle.table.specs.Rows.{Row, Attribute, Table, attribute_of, attributes_from}
use Rattle.table.specs.Rows.Content.{empty, simple, particles}
use Rattle.value.specs.Simple.{Simple, simple_of, first_word, second_word, times_code, simple_at, words_of, plain}
use Rattle.value.specs.Code.{choice}
use Rattle.model.specs.Model.{event, event_of, Plan, Path, Answer, value, maybe, attribute, attributes, contents, rows, within, due, plan, only, types_of, rooted}
use Rattle.model.specs.Model.Plan.{done}
use Rattle.model.specs.Model.Item.{optional, valued, picked, counted}
use Rattle.model.specs.Model.Nodes.{none}
use Rattle.model.specs.Model.Answer.{given, refused}
use Rattle.model.specs.Items.{Lengths, form_of, form_at, item_at, head_at}
use Rattle.model.specs.Read.{Room, after, code, stored, opened, element_at, read}
use Rattle.model.proofs.Join.{after-done, attribute-join, attributes-join, plan-join, read_join}
use Rattle.model.specs.Steps.{particle_at, rounds_at, children_at, repeats_at, value_at, attribute_at, attributes_at, content_at, inside_at}

-- which code each item has
module _ (b : ℕ → ℕ) (wall at : ℕ) where
  pub item-optional : (name : ℕ) → item_at (optional name) b wall at ≡ simple_at (plain (choice 2)) b wall at
  unfolding item_at form_of form_at
  item-optional name = refl

  pub item-valued : (k x y : ℕ) → item_at (valued k x y) b wall at ≡ simple_at (simple_of k x y) b wall at
  unfolding item_at form_of form_at
  item-valued k x y = refl

  pub item-picked : (n : ℕ) → item_at (picked n) b wall at ≡ simple_at (plain (choice n)) b wall at
  unfolding item_at form_of form_at
  item-picked n = refl

  pub item-counted : (least most : ℕ) → item_at (counted least most) b wall at ≡ simple_at (plain (times_code least most)) b wall at
  unfolding item_at form_of form_at
  item-counted least most = refl

words-code : (s : Simple) (m : Res (ℕ × List ℕ × ℕ)) (π : Path) (at : ℕ) (k : ℕ × ℕ × List ℕ × ℕ → Answer)
    → code m π at (λ (v, ts, q). k (first_word s v, second_word s v, ts, q)) ≡ code (words_of s m) π at k
unfolding code words_of ◌>>=◌
words-code s (got a) π at k = refl
words-code s (fault n) π at k = refl

module _ (b : ℕ → ℕ) (mode : Lengths) (held : ℕ → Bool) (T : Table) where
  module _ (r : Room) (π : Path) (wall at : ℕ) where
    pub particle-deep : (row : Row) → particle_at b mode held T zero row r π wall at ≡ refused refusal.depth at π
    unfolding plan read
    particle-deep row = refl

    pub particle-element : (d name type row : ℕ) → particle_at b mode held T (suc d) (Row.element name type row) r π wall at
        ≡ code (head_at mode b wall at) π at (opened b mode held (inside_at b mode held T d) name (types_of T type row) r π wall at)
    unfolding plan due read element_at
    particle-element d name type row = after-done r _

    -- the root has nothing to choose from
    pub root-element : (name type : ℕ) → read b mode held (rooted T name type) r π wall at
        ≡ code (head_at mode b wall at) π at (opened b mode held (inside_at b mode held T (most_open - 1)) name (only type) r π wall at)
    unfolding read element_at
    root-element name type = after-done r _

    pub particle-sequence : (d first count : ℕ) → particle_at b mode held T (suc d) (Row.sequence first count) r π wall at ≡ children_at b mode held T d count first r π wall at
    unfolding plan due
    particle-sequence d first count = refl

    pub particle-choice : (d first count : ℕ) → particle_at b mode held T (suc d) (Row.choice first count) r π wall at
        ≡ code (item_at (picked count) b wall at) π at
        (λ (v, ts, q). after r (stored r π at (event kinds.pick v 0 (q - at)) ts q) (λ s p. particle_at b mode held T d (T.row (first + v)) s π wall p))
    unfolding plan due read event_of
    particle-choice d first count = refl

    pub particle-occurs : (d child least most : ℕ) → particle_at b mode held T (suc d) (Row.occurs child least most) r π wall at
        ≡ code (item_at (counted least most) b wall at) π at
        (λ (v, ts, q). after r (stored r π at (event kinds.times v 0 (q - at)) ts q) (λ s p. repeats_at b mode held T d v child s π wall p))
    unfolding plan due read event_of
    particle-occurs d child least most = refl

    pub rounds-none : (d : ℕ) (g : ℕ → Row) → rounds_at b mode held T d zero g r π wall at ≡ given none at
    unfolding rows read
    rounds-none d g = refl

    pub rounds-more : (d n : ℕ) (g : ℕ → Row) → rounds_at b mode held T d (suc n) g r π wall at
        ≡ after r (particle_at b mode held T d (g 0) r π wall at) (λ s p. rounds_at b mode held T d n (λ i. g (suc i)) s π wall p)
    unfolding rows
    rounds-more d n g =
        let rest : Plan = rows (plan T d) n (λ i. g (suc i)) done in
        rw (plan-join T d (g 0) rest) (read_join b mode held (plan T d (g 0) done) rest r π wall at)

    pub children-more : (d n first : ℕ) → children_at b mode held T d (suc n) first r π wall at
        ≡ after r (particle_at b mode held T d (T.row first) r π wall at) (λ s p. children_at b mode held T d n (first + 1) s π wall p)
    children-more d n first =
        let zero-on : first + 0 ≡ first = omega arith in
        let one_on : (i : ℕ) → first + suc i ≡ first + 1 + i = λ i. omega arith in
        rounds-more d n (λ i. T.row (first + i))
        ∙ (λ j. after r (particle_at b mode held T d (T.row (zero-on j)) r π wall at) (λ s p. rounds_at b mode held T d n (λ i. T.row (one_on i j)) s π wall p))

    pub repeats-more : (d n child : ℕ) → repeats_at b mode held T d (suc n) child r π wall at
        ≡ after r (particle_at b mode held T d (T.row child) r π wall at) (λ s p. repeats_at b mode held T d n child s π wall p)
    repeats-more d n child = rounds-more d n (λ i. T.row child)

    -- a value's event has its words
    pub value-is : (k x y : ℕ) → value_at b mode held T k x y r π wall at
        ≡ code (words_of (simple_of k x y) (item_at (valued k x y) b wall at)) π at (λ (v, w, ts, q). stored r π at (event kinds.value v w (q - at)) ts q)
    unfolding value read event_of
    value-is k x y =
        let s = simple_of k x y in
        (λ j. code (item_at (valued k x y) b wall at) π at (λ z. after-done r (stored r π at (event kinds.value (first_word s z.0) (second_word s z.0) (z.2 - at)) z.1 z.2) j))
        ∙ words-code s (item_at (valued k x y) b wall at) π at (λ (v, w, ts, q). stored r π at (event kinds.value v w (q - at)) ts q)

    -- an attribute that must be there: its event, of no bits, then its value
    pub attribute-required : (a : Attribute) → a.must ≡ true
        → attribute_at b mode held T a r π wall at ≡ after r (stored r π at (event kinds.attribute a.name 1 (at - at)) [] at) (λ s p. value_at b mode held T a.simple a.b a.c s π wall p)
    unfolding attribute read event_of code item_at form_of form_at
    attribute-required a e = rw e

    -- one that may be absent: its flag, and its value where that is not 0
    pub attribute-optional : (a : Attribute) → a.must ≡ false → attribute_at b mode held T a r π wall at
        ≡ code (item_at (optional a.name) b wall at) π at
        (λ (v, ts, q). after r (stored r π at (event kinds.attribute a.name v (q - at)) ts q) (λ s p. read b mode held (maybe v (value a.simple a.b a.c done) done) s π wall p))
    unfolding attribute read event_of
    attribute-optional a e = rw e

    pub maybe-absent : (a : Attribute) → read b mode held (maybe 0 (value a.simple a.b a.c done) done) r π wall at ≡ given none at
    unfolding maybe read
    maybe-absent a = refl

    pub maybe-present : (v : ℕ) (a : Attribute) → read b mode held (maybe (suc v) (value a.simple a.b a.c done) done) r π wall at ≡ value_at b mode held T a.simple a.b a.c r π wall at
    unfolding maybe
    maybe-present v a = refl

    pub attributes-none : (attributes_at b mode held T) [] r π wall at ≡ given none at
    unfolding attributes read
    attributes-none = refl

    pub attributes-more : (a : Attribute) (l : List Attribute) → attributes_at b mode held T (a ∷ l) r π wall at
        ≡ after r (attribute_at b mode held T a r π wall at) (λ s p. attributes_at b mode held T l s π wall p)
    unfolding attributes
    attributes-more a l = rw (attribute-join a.must a (attributes l done)) (read_join b mode held (attribute a.must a done) (attributes l done) r π wall at)

    -- by attribute rows of a table's words
    pub attributes-from : (l : List ℕ) (n i : ℕ) → attributes_at b mode held T (attributes_from l (suc n) i) r π wall at
        ≡ after r (attribute_at b mode held T (attribute_of l i) r π wall at) (λ s p. attributes_at b mode held T (attributes_from l n (i + 1)) s π wall p)
    unfolding attributes_from
    attributes-from l n i = attributes-more (attribute_of l i) (attributes_from l n (i + 1))

    pub attributes-from-none : (l : List ℕ) (i : ℕ) → attributes_at b mode held T (attributes_from l zero i) r π wall at ≡ given none at
    unfolding attributes_from
    attributes-from-none l i = attributes-none

    pub content-empty : (d : ℕ) → content_at b mode held T d empty r π wall at ≡ given none at
    unfolding contents read
    content-empty d = refl

    pub content-simple : (d k x y : ℕ) → content_at b mode held T d (simple k x y) r π wall at ≡ value_at b mode held T k x y r π wall at
    unfolding contents
    content-simple d k x y = refl

    pub content-particles : (d i : ℕ) → content_at b mode held T d (particles i) r π wall at ≡ particle_at b mode held T d (T.row i) r π wall at
    unfolding contents
    content-particles d i = refl

    pub inside_is : (d t : ℕ) → inside_at b mode held T d t r π wall at
        ≡ after r (attributes_at b mode held T (T.attributes t) r π wall at) (λ s p. content_at b mode held T d (T.content t) s π wall p)
    unfolding within
    inside_is d t =
        rw (attributes-join (T.attributes t) (contents (plan T d) T.row (T.content t)))
        (read_join b mode held (attributes (T.attributes t) done) (contents (plan T d) T.row (T.content t)) r π wall at)
