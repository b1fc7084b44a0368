-- The writing as the code goes it, one function for a particle row, for rows one after another, for an attribute, a value, content, what is inside
-- an element; and what each is at each case. A proof of code cites these laws and never sees a plan.
use Prim.Native.Nat.{ℕ, zero, suc, ◌+◌, ◌-◌}
use mathlib.Core.Path.{◌≡◌, refl, sym, ◌∙◌}
use mathlib.Core.Bool.{Bool, true, false}
use mathlib.Core.List.{List, [], ◌∷◌}
use native.Mathlib.Omega.{arith}
use lib.ListN.{length}
use Rattle.numbers.specs.Limit.{most_open}
use Rattle.wire.specs.Res.{got}
use Rattle.table.specs.Rows.{Row, Attribute, Table, attribute_of, attributes_from}
use Rattle.table.specs.Rows.Content.{empty, simple, particles}
use Rattle.value.specs.Code.{choice}
use Rattle.value.specs.Simple.{plain, simple_of, times_code}
use Rattle.model.specs.Model.{Item, Plan, value, maybe, attribute, attributes, contents, rows, within, due, plan, only, types_of, rooted}
use Rattle.model.specs.Model.Plan.{done, deep, item, element}
use Rattle.model.specs.Model.Item.{required, optional, valued, picked, counted}
use Rattle.model.specs.Items.{Lengths, form_of}
use Rattle.model.specs.Write.{Bare, Out, wrote, put, along, taken, word_of, as_item, simple_out, form_out, item_out, coded, too_deep, element_out, write}
use Rattle.model.proofs.OutLaws.{put-none, along-put, along-along, along-done, taken-along, coded-along}
use Rattle.model.proofs.Join.{join, plan-join, attribute-join, attributes-join}
use Rattle.model.specs.WriteSteps.{item_then, particle_out, rounds_out, children_out, repeats_out, value_out, attribute_out, attributes_out, content_out, inside_out}

-- which code each item has
module _ (v : ℕ) (T : List ℕ) where
  pub out-required : (name : ℕ) → item_out (required name) v T ≡ got ([], T)
  unfolding item_out form_of form_out
  out-required name = refl

  pub out-optional : (name : ℕ) → item_out (optional name) v T ≡ simple_out (plain (choice 2)) v T
  unfolding item_out form_of form_out
  out-optional name = refl

  pub out-valued : (k x y : ℕ) → item_out (valued k x y) v T ≡ simple_out (simple_of k x y) v T
  unfolding item_out form_of form_out
  out-valued k x y = refl

  pub out-picked : (n : ℕ) → item_out (picked n) v T ≡ simple_out (plain (choice n)) v T
  unfolding item_out form_of form_out
  out-picked n = refl

  pub out-counted : (least most : ℕ) → item_out (counted least most) v T ≡ simple_out (plain (times_code least most)) v T
  unfolding item_out form_of form_out
  out-counted least most = refl

item-along : (i : Item) (M : List Bare) (T : List ℕ) (k : ℕ → List Bare → List ℕ → Out) (l : List Bare → List ℕ → Out)
    → along (item_then i M T k) l ≡ item_then i M T (λ v N U. along (k v N U) l)
item-along i M T k l =
    taken-along (as_item i) M _ l
    ∙ (λ j. taken (as_item i) M (λ e N. coded-along (item_out i (word_of i e) T) (suc (length N)) (λ (w, U). put w (k (word_of i e) N U)) l j))
    ∙ (λ j. taken (as_item i) M (λ e N. coded (item_out i (word_of i e) T) (suc (length N)) (λ (w, U). sym (along-put w (k (word_of i e) N U) l) j)))

module _ (mode : Lengths) (held : ℕ → Bool) where
  pub write-join : (P Q : Plan) (M : List Bare) (T : List ℕ) → write mode held (join P Q) M T ≡ along (write mode held P M T) (λ N U. write mode held Q N U)
  unfolding write join along too_deep
  write-join done Q M T = sym (put-none (write mode held Q M T))
  write-join deep Q [] T = refl
  write-join deep Q (e ∷ M) T = refl
  write-join (item i k) Q M T =
      (λ j. item_then i M T (λ v N U. write-join (k v) Q N U j)) ∙ sym (item-along i M T (λ v N U. write mode held (k v) N U) (λ N U. write mode held Q N U))
  write-join (element name type f P) Q M T =
      let o : Out = element_out mode held (λ t N U. write mode held (f t) N U) name type M T in
      (λ j. along o (λ N U. write-join P Q N U j)) ∙ sym (along-along o (λ N U. write mode held P N U) (λ N U. write mode held Q N U))

  module _ (T : Table) where
    module _ (M : List Bare) (X : List ℕ) where
      pub particle-deep : (row : Row) → particle_out mode held T zero row M X ≡ too_deep M
      unfolding plan write
      particle-deep row = refl

      pub particle-element : (d name type row : ℕ) → particle_out mode held T (suc d) (Row.element name type row) M X
          ≡ element_out mode held (inside_out mode held T d) name (types_of T type row) M X
      unfolding plan due write
      particle-element d name type row = along-done (element_out mode held (inside_out mode held T d) name (types_of T type row) M X)

      -- the root has nothing to choose from
      pub root-element : (name type : ℕ) → write mode held (rooted T name type) M X ≡ element_out mode held (inside_out mode held T (most_open - 1)) name (only type) M X
      unfolding write
      root-element name type = along-done (element_out mode held (inside_out mode held T (most_open - 1)) name (only type) M X)

      pub particle-sequence : (d first count : ℕ) → particle_out mode held T (suc d) (Row.sequence first count) M X ≡ children_out mode held T d count first M X
      unfolding plan due
      particle-sequence d first count = refl

      pub particle-choice : (d first count : ℕ) → particle_out mode held T (suc d) (Row.choice first count) M X
          ≡ item_then (picked count) M X (λ v N U. particle_out mode held T d (T.row (first + v)) N U)
      unfolding plan due write
      particle-choice d first count = refl

      pub particle-occurs : (d child least most : ℕ) → particle_out mode held T (suc d) (Row.occurs child least most) M X
          ≡ item_then (counted least most) M X (λ v N U. repeats_out mode held T d v child N U)
      unfolding plan due write
      particle-occurs d child least most = refl

      pub rounds-none : (d : ℕ) (g : ℕ → Row) → rounds_out mode held T d zero g M X ≡ wrote [] M X
      unfolding rows write
      rounds-none d g = refl

      pub rounds-more : (d n : ℕ) (g : ℕ → Row) → rounds_out mode held T d (suc n) g M X ≡ along (particle_out mode held T d (g 0) M X) (λ N U. rounds_out mode held T d n (λ i. g (suc i)) N U)
      unfolding rows
      rounds-more d n g =
          let rest : Plan = rows (plan T d) n (λ i. g (suc i)) done in
          rw (plan-join T d (g 0) rest) (write-join (plan T d (g 0) done) rest M X)

      pub children-more : (d n first : ℕ) → children_out mode held T d (suc n) first M X ≡ along (particle_out mode held T d (T.row first) M X) (λ N U. children_out mode held T d n (first + 1) N U)
      children-more d n first =
          let zero-on : first + 0 ≡ first = omega arith in
          let one_on : (i : ℕ) → first + suc i ≡ first + 1 + i = λ i. omega arith in
          rounds-more d n (λ i. T.row (first + i)) ∙ (λ j. along (particle_out mode held T d (T.row (zero-on j)) M X) (λ N U. rounds_out mode held T d n (λ i. T.row (one_on i j)) N U))

      pub repeats-more : (d n child : ℕ) → repeats_out mode held T d (suc n) child M X ≡ along (particle_out mode held T d (T.row child) M X) (λ N U. repeats_out mode held T d n child N U)
      repeats-more d n child = rounds-more d n (λ i. T.row child)

      pub value-is : (k x y : ℕ) → value_out mode held T k x y M X ≡ item_then (valued k x y) M X (λ v N U. wrote [] N U)
      unfolding value write
      value-is k x y = refl

      pub attribute-required : (a : Attribute) → a.must ≡ true → attribute_out mode held T a M X ≡ item_then (required a.name) M X (λ v N U. value_out mode held T a.simple a.b a.c N U)
      unfolding attribute write
      attribute-required a e = rw e

      pub attribute-optional : (a : Attribute) → a.must ≡ false
          → attribute_out mode held T a M X ≡ item_then (optional a.name) M X (λ v N U. write mode held (maybe v (value a.simple a.b a.c done) done) N U)
      unfolding attribute write
      attribute-optional a e = rw e

      pub maybe-absent : (a : Attribute) → write mode held (maybe 0 (value a.simple a.b a.c done) done) M X ≡ wrote [] M X
      unfolding maybe write
      maybe-absent a = refl

      pub maybe-present : (v : ℕ) (a : Attribute) → write mode held (maybe (suc v) (value a.simple a.b a.c done) done) M X ≡ value_out mode held T a.simple a.b a.c M X
      unfolding maybe
      maybe-present v a = refl

      pub attributes-none : (attributes_out mode held T) [] M X ≡ wrote [] M X
      unfolding attributes write
      attributes-none = refl

      pub attributes-more : (a : Attribute) (l : List Attribute) → attributes_out mode held T (a ∷ l) M X ≡ along (attribute_out mode held T a M X) (λ N U. attributes_out mode held T l N U)
      unfolding attributes
      attributes-more a l = rw (attribute-join a.must a (attributes l done)) (write-join (attribute a.must a done) (attributes l done) M X)

      -- by attribute rows of a table's words
      pub attributes-from : (t : List ℕ) (n i : ℕ) → attributes_out mode held T (attributes_from t (suc n) i) M X
          ≡ along (attribute_out mode held T (attribute_of t i) M X) (λ N U. attributes_out mode held T (attributes_from t n (i + 1)) N U)
      unfolding attributes_from
      attributes-from t n i = attributes-more (attribute_of t i) (attributes_from t n (i + 1))

      pub attributes-from-none : (t : List ℕ) (i : ℕ) → attributes_out mode held T (attributes_from t zero i) M X ≡ wrote [] M X
      unfolding attributes_from
      attributes-from-none t i = attributes-none

      pub content-empty : (d : ℕ) → content_out mode held T d empty M X ≡ wrote [] M X
      unfolding contents write
      content-empty d = refl

      pub content-simple : (d k x y : ℕ) → content_out mode held T d (simple k x y) M X ≡ value_out mode held T k x y M X
      unfolding contents
      content-simple d k x y = refl

      pub content-particles : (d i : ℕ) → content_out mode held T d (particles i) M X ≡ particle_out mode held T d (T.row i) M X
      unfolding contents
      content-particles d i = refl

      pub inside_is : (d t : ℕ) → inside_out mode held T d t M X ≡ along (attributes_out mode held T (T.attributes t) M X) (λ N U. content_out mode held T d (T.content t) N U)
      unfolding within
      inside_is d t =
          rw (attributes-join (T.attributes t) (contents (plan T d) T.row (T.content t)))
          (write-join (attributes (T.attributes t) done) (contents (plan T d) T.row (T.content t)) M X)
