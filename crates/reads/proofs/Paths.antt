-- No reading has more than most_open elements open: a path fits the area.
use Prim.Native.Nat.{ℕ, zero, suc, ◌+◌, ◌/◌, ◌≤◌}
use mathlib.Core.List.{List, [], ◌∷◌}
use mathlib.Core.Bool.{Bool, true, false}
use native.Mathlib.Omega.{arith}
use lib.ListN.{length, length-reverse}
use Rattle.numbers.specs.Limit.{most_names, most_open}
use Rattle.table.specs.First.{Verdict}
use Rattle.table.specs.First.Verdict.{right, wrong}
use Rattle.table.specs.Rows.{Row, Content, Attribute, Table, table_of}
use Rattle.table.specs.Rows.Content.{empty, simple, particles}
use Rattle.model.specs.Model.{Types, Plan, Nodes, Path, Item, value, maybe, attribute, attributes, contents, rows, within, due, plan, table_in, rooted}
use Rattle.model.specs.Items.{Lengths}
use Rattle.model.specs.Read.{Room}
use Rattle.model.proofs.Readings.{one, Goes, an_item, an_element, a_blank, Refuses, here, no-codes, no-cast, inside, unmet, no_end, later}
use Rattle.model.specs.Whole.{Reply, reading, outcome, after_verdict}
use Rattle.model.proofs.Replies.{Replies, no_table, no-root, no_mode, stopped, unpadded, whole, reading-replies}
use Rattle.buffers.specs.Bytes.{words_of}
use Rattle.call_parts.specs.Calls.{table_verdict, read_bytes}

-- a plan that opens at most d elements inside one another
pub data Opens : ℕ → Plan → Type 0 where
  none : {d : ℕ} → Opens d Plan.done
  past : {d : ℕ} → Opens d Plan.deep
  then : {d : ℕ} {i : Item} {k : ℕ → Plan} → ((v : ℕ) → Opens d (k v)) → Opens d (Plan.item i k)
  into : {d name : ℕ} {y : Types} {inside : ℕ → Plan} {rest : Plan} → ((t : ℕ) → Opens d (inside t)) → Opens (suc d) rest
      → Opens (suc d) (Plan.element name y inside rest)

-- the rows of a table open no more than are allowed; f is the plan of a row that opens at most d
module _ (d : ℕ) (f : Row → Plan → Plan) (h : (row : Row) (rest : Plan) → Opens d rest → Opens d (f row rest)) where
  rows-open : (n : ℕ) (g : ℕ → Row) (rest : Plan) → Opens d rest → Opens d (rows f n g rest)
  unfolding rows
  rows-open zero g rest o = o
  rows-open (suc n) g rest o = h (g 0) _ (rows-open n (λ i. g (suc i)) rest o)

value-open : (d kind b c : ℕ) (rest : Plan) → Opens d rest → Opens d (value kind b c rest)
unfolding value
value-open d kind b c rest o = Opens.then (λ v. o)

maybe-open : (d v : ℕ) (p rest : Plan) → Opens d p → Opens d rest → Opens d (maybe v p rest)
unfolding maybe
maybe-open d zero p rest x o = o
maybe-open d (suc v) p rest x o = x

attribute-open : (d : ℕ) (must : Bool) (a : Attribute) (rest : Plan) → Opens d rest → Opens d (attribute must a rest)
unfolding attribute
attribute-open d true a rest o = Opens.then (λ v. value-open d a.simple a.b a.c rest o)
attribute-open d false a rest o =
    Opens.then (λ v. maybe-open d v _ rest (value-open d a.simple a.b a.c rest o) o)

attributes-open : (d : ℕ) (l : List Attribute) (rest : Plan) → Opens d rest → Opens d (attributes l rest)
unfolding attributes
attributes-open d [] rest o = o
attributes-open d (a ∷ l) rest o = attribute-open d a.must a _ (attributes-open d l rest o)

module _ (T : Table) where
  contents-open : (d : ℕ) (f : Row → Plan → Plan) → ((row : Row) (rest : Plan) → Opens d rest → Opens d (f row rest))
      → (c : Content) → Opens d (contents f T.row c)
  unfolding contents
  contents-open d f h empty = Opens.none
  contents-open d f h (simple kind b c) = value-open d kind b c Plan.done Opens.none
  contents-open d f h (particles i) = h (T.row i) Plan.done Opens.none

  -- so many rows may still be opened, within at most D open elements
  plan-open : (d D : ℕ) → d ≤ D → (row : Row) (rest : Plan) → Opens D rest → Opens D (plan T d row rest)
  unfolding plan due within
  plan-open zero D h row rest o = Opens.past
  plan-open (suc d) (suc D) h (Row.element name type row) rest o =
      Opens.into (λ t. attributes-open D (T.attributes t) _ (contents-open D (plan T d) (λ r s. plan-open d D (omega arith) r s) (T.content t))) o
  plan-open (suc d) D h (Row.sequence first count) rest o =
      rows-open D (plan T d) (λ r s. plan-open d D (omega arith) r s) count (λ i. T.row (first + i)) rest o
  plan-open (suc d) D h (Row.choice first count) rest o =
      Opens.then (λ v. plan-open d D (omega arith) (T.row (first + v)) rest o)
  plan-open (suc d) D h (Row.occurs child least most) rest o =
      Opens.then (λ v. rows-open D (plan T d) (λ r s. plan-open d D (omega arith) r s) v (λ i. T.row child) rest o)
  plan-open (suc d) zero h (Row.element name type row) rest o = absurd (omega arith)

  -- the root, and the rows inside it
  root-open : (name type : ℕ) → Opens most_open (rooted T name type)
  unfolding within
  root-open name type =
      Opens.into (λ t. attributes-open 63 (T.attributes t) _ (contents-open 63 (plan T 63) (λ r s. plan-open 63 63 (omega arith) r s) (T.content t))) Opens.none

module _ {b : ℕ → ℕ} {mode : Lengths} {held : ℕ → Bool} where
  goes-open : {D : ℕ} {P Q : Plan} {r : Room} {wall at q : ℕ} {ns : Nodes} → Goes b mode held one P r wall at ns q Q
      → Opens D P → Opens D Q
  goes-open (an_item {v} e h k) (Opens.then o) = o v
  goes-open (an_element x z g e h) (Opens.into o q) = q
  goes-open (a_blank n x e z h) (Opens.into o q) = q

  refuses-short : {P : Plan} {r : Room} {π ρ : Path} {wall at n p : ℕ} → Refuses b mode held P r π wall at n p ρ
      → (D : ℕ) → Opens D P → length π + D ≤ most_names → length ρ ≤ most_names
  refuses-short (here x) D o h = omega arith
  refuses-short (no-codes k e c) D o h = omega arith
  refuses-short (no-cast x z c s) (suc D) (Opens.into o q) h = omega arith
  refuses-short (no-cast x z c s) zero o h = elim o [ ]
  refuses-short (inside x z s d) (suc D) (Opens.into o q) h = refuses-short d D (o x.t) (omega arith)
  refuses-short (inside x z s d) zero o h = elim o [ ]
  refuses-short (unmet x z s g e) (suc D) (Opens.into o q) h = omega arith
  refuses-short (unmet x z s g e) zero o h = elim o [ ]
  refuses-short (no_end x z s g e k) (suc D) (Opens.into o q) h = omega arith
  refuses-short (no_end x z s g e k) zero o h = elim o [ ]
  refuses-short (later f d) D o h = refuses-short d D (goes-open f o) h

replies-short : {l : List ℕ} {party name type : ℕ} {s : List ℕ} {words bytes : ℕ} {R : Reply}
    → Replies l party name type s words bytes R → length (outcome R).path ≤ most_names
unfolding outcome
replies-short (no_table v) = omega arith
replies-short (no-root v a) = omega arith
replies-short (no_mode v a m) = omega arith
replies-short {l} {name} {type} (stopped {mode} {π} i r) =
    let k = refuses-short r most_open (root-open (table_in mode.casting (table_of l)) name type) (omega arith) in
    omega (arith, length-reverse π)
replies-short (unpadded i r e) = omega arith
replies-short (whole i r e) = omega arith

-- so the path of every reading fits
pub path-fits : (l : List ℕ) (party name type : ℕ) (s : List ℕ) (words bytes : ℕ) → length (outcome (reading l party name type s words bytes)).path ≤ most_names
path-fits l party name type s words bytes = replies-short (reading-replies l party name type s words bytes)

pub path-most : (t : List ℕ) (party name type : ℕ) (s : List ℕ) (e x : ℕ)
    → length (outcome (read_bytes t party name type s e x)).path ≤ most_names
unfolding read_bytes outcome after_verdict
path-most t party name type s e x = go (table_verdict t)
  where
    go : (v : Verdict) → length (outcome (after_verdict v (reading (words_of t) party name type s (e / 4) x))).path ≤ most_names
    go right = path-fits (words_of t) party name type s (e / 4) x
    go (wrong i) = omega arith
