-- Theorems (a) and (c). The sum over a list of events is a lemma about lists, not about the reader.
use Prim.Native.Nat.{ℕ, zero, suc, ◌+◌, ◌-◌, ◌*◌, ◌%◌, ◌≤◌, ◌<◌}
use mathlib.Core.Path.{◌≡◌, refl, sym, ap, ◌∙◌}
use mathlib.Core.Bool.{Bool, true, false, cond}
use mathlib.Core.List.{List, [], ◌∷◌}
use native.Mathlib.Omega.{arith}
use borrow.Author.Tests.{ltb-true, ltb-false, eq-eqb, ne_eqb, eqb-true, eqb-false}
use lib.Dec.{eqb, ltb}
use lib.ListN.{length, get_or, set, replicate, length-set, length-replicate}
use lib.Seq.{get_or-set_same, get_or-set_other}
use Rattle.model.specs.Model.{Event, events}
use Rattle.model.specs.Trees.{total}
use Rattle.model.specs.Whole.{Reply, outcome}
use Rattle.model.specs.Whole.Reply.{accepted, declined}
use Rattle.theorems.proofs.Reader.{bits-add-up, list-fits}
use Rattle.theorems.proofs.NamedReading.{zero-accepts}
use Rattle.report.specs.Places.{numbers, stopped, total_bits, mode_bits, padding_bits, answered, answers, other, seen, own, blanked}
use Rattle.report.specs.Report.{Sort, at, plus, named, sort_of, line_for, bits_to, met, open_after, counted, counted_then, counts, accepts, refuses, sums, fits, settled, adds, added}
use Rattle.report.specs.Report.Sort.{begins, blank, ends, inside}
use Rattle.report.specs.Sums.{Line, Lines}
use Rattle.report.specs.Theorems.{Payload, reply_to, fresh, after, column, own_bits, blanked_bits, bytes_if, accepted_bytes, answered_with, ColumnsAddUp, Stops}
use Rattle.report.proofs.Ways.{lines_after}
use Rattle.report.proofs.Passing.{fits-true, fits-false, for-line}

-- (c)
module _ (number bytes bits : ℕ) (L : List Event) (R : List ℕ) where
  going : at R stopped ≡ 0 → adds number bytes bits L R ≡ settled R (sums number bytes bits L R)
  unfolding adds
  going z = rw (eq-eqb (at R stopped) 0 z)

  pub stops-where : Stops number bytes bits L R
  unfolding settled adds
  stops-where =
      record {
        goes = λ z h. going z ∙ rw (fits-true (sums number bytes bits L R) h);
        stops = λ z i h. going z ∙ rw (fits-false (sums number bytes bits L R) i h);
        stays = λ z. rw (ne_eqb (at R stopped) 0 z);
      }

-- a column, where a number outside of it is stored, and where one of its own grows
column-out : (k n i j v : ℕ) (R : List ℕ) → ((p : ℕ) → p % 4 ≡ i % 4 → i ≤ p → p + k ≡ j → ⊥) → column k n i (set R j v) ≡ column k n i R
unfolding column
column-out k zero i j v R h = refl
column-out k (suc n) i j v R h =
    let a = get_or-set_other R j (i + k) v 0 (λ e. h i refl (omega arith) e) in
    let b = column-out k n (i + 4) j v R (λ p e l f. h p (omega arith) (omega arith) f) in
    omega arith

column-in : (k n i p v : ℕ) (R : List ℕ) → p % 4 ≡ i % 4 → i ≤ p → p < i + 4 * n → p + k < length R → column k n i (plus (p + k) v R) ≡ column k n i R + v
unfolding column
column-in k zero i p v R e l h b = absurd (omega arith)
column-in k (suc n) i p v R e l h b = go (ltb i p) refl (λ q. column-in k n (i + 4) p v R (omega arith) (omega arith) (omega arith) b)
  where
    go : (u : Bool) → ltb i p ≡ u → (i < p → column k n (i + 4) (plus (p + k) v R) ≡ column k n (i + 4) R + v) → at (plus (p + k) v R) (i + k) + column k n (i + 4) (plus (p + k) v R) ≡ at R (i + k) + column k n (i + 4) R + v
    go true z later =
        let q = ltb-true i p z in
        let a = later q in
        let c = get_or-set_other R (p + k) (i + k) (at R (p + k) + v) 0 (λ f. omega arith) in
        omega arith
    go false z later =
        let q = ltb-false i p z in
        let m : i ≡ p = omega arith in
        let a = get_or-set_same R (p + k) (at R (p + k) + v) 0 b in
        let c = column-out k n (i + 4) (p + k) (at R (p + k) + v) R (λ y f g x. omega arith) in
        let d : at (plus (p + k) v R) (i + k) ≡ at R (i + k) + v = rw m a in
        omega arith

abbrev both : List ℕ → ℕ
both R = own_bits R + blanked_bits R

-- the bits of an event go to one of the two columns, and to no number before the lines
named-both : (i name : ℕ) (R : List ℕ) → Line i → both (named i name R) ≡ both R
unfolding named
named-both i name R l = go (eqb i other)
  where
    go : (u : Bool) → both (cond u R (set R i name)) ≡ both R
    go true = refl
    go false =
        let w = l.whole in
        let a = column-out 2 1025 68 i name R (λ p e f g. omega arith) in
        let b = column-out 3 1025 68 i name R (λ p e f g. omega arith) in
        omega arith

seen-both : (i v : ℕ) (R : List ℕ) → Line i → both (plus (seen i) v R) ≡ both R
seen-both i v R l =
    let w = l.whole in
    let a = column-out 2 1025 68 (seen i) (at R (seen i) + v) R (λ p e f g. omega arith) in
    let b = column-out 3 1025 68 (seen i) (at R (seen i) + v) R (λ p e f g. omega arith) in
    omega arith

own-both : (i v : ℕ) (R : List ℕ) → Line i → length R ≡ numbers → both (plus (own i) v R) ≡ both R + v
own-both i v R l n =
    let w = l.whole in let f = l.from in let t = l.to in
    let a = column-in 2 1025 68 i v R (omega arith) (omega arith) (omega arith) (omega arith) in
    let b = column-out 3 1025 68 (own i) (at R (own i) + v) R (λ p e f g. omega arith) in
    omega arith

blanked-both : (i v : ℕ) (R : List ℕ) → Line i → length R ≡ numbers → both (plus (blanked i) v R) ≡ both R + v
blanked-both i v R l n =
    let w = l.whole in let f = l.from in let t = l.to in
    let a = column-in 3 1025 68 i v R (omega arith) (omega arith) (omega arith) (omega arith) in
    let b = column-out 2 1025 68 (blanked i) (at R (blanked i) + v) R (λ p e f g. omega arith) in
    omega arith

pub named-length : (i name : ℕ) (R : List ℕ) → length (named i name R) ≡ length R
unfolding named
named-length i name R = go (eqb i other)
  where
    go : (u : Bool) → length (cond u R (set R i name)) ≡ length R
    go true = refl
    go false = length-set R i name

met-length : (s : Sort) (name i : ℕ) (R : List ℕ) → length (met s name i R) ≡ length R
unfolding met
met-length begins name i R = length-set (named i name R) (seen i) (at (named i name R) (seen i) + 1) ∙ named-length i name R
met-length blank name i R = length-set (named i name R) (seen i) (at (named i name R) (seen i) + 1) ∙ named-length i name R
met-length ends name i R = refl
met-length inside name i R = refl

met-both : (s : Sort) (name i : ℕ) (R : List ℕ) → Line i → both (met s name i R) ≡ both R
unfolding met
met-both begins name i R l = seen-both i 1 (named i name R) l ∙ named-both i name R l
met-both blank name i R l = seen-both i 1 (named i name R) l ∙ named-both i name R l
met-both ends name i R l = refl
met-both inside name i R l = refl

pub counted-length : (s : Sort) (name bits i : ℕ) (R : List ℕ) → length (counted s name bits i R) ≡ length R
unfolding counted
counted-length s name bits i R = length-set (met s name i R) (bits_to s i) (at (met s name i R) (bits_to s i) + bits) ∙ met-length s name i R

counted-both : (s : Sort) (name bits i : ℕ) (R : List ℕ) → Line i → length R ≡ numbers → both (counted s name bits i R) ≡ both R + bits
unfolding counted bits_to
counted-both begins name bits i R l n = let a = own-both i bits (met begins name i R) l (met-length begins name i R ∙ n) in let b = met-both begins name i R l in omega arith
counted-both blank name bits i R l n = let a = blanked-both i bits (met blank name i R) l (met-length blank name i R ∙ n) in let b = met-both blank name i R l in omega arith
counted-both ends name bits i R l n = let a = own-both i bits (met ends name i R) l (met-length ends name i R ∙ n) in let b = met-both ends name i R l in omega arith
counted-both inside name bits i R l n = let a = own-both i bits (met inside name i R) l (met-length inside name i R ∙ n) in let b = met-both inside name i R l in omega arith

-- a number before the lines stays
named-before : (i name j : ℕ) (R : List ℕ) → Line i → j < other → at (named i name R) j ≡ at R j
unfolding named
named-before i name j R l h = go (eqb i other)
  where
    go : (u : Bool) → at (cond u R (set R i name)) j ≡ at R j
    go true = refl
    go false = let f = l.from in get_or-set_other R i j name 0 (λ e. omega arith)

plus-before : (i v j : ℕ) (R : List ℕ) → other ≤ i → j < other → at (plus i v R) j ≡ at R j
plus-before i v j R l h = get_or-set_other R i j (at R i + v) 0 (λ e. omega arith)

met-before : (s : Sort) (name i j : ℕ) (R : List ℕ) → Line i → j < other → at (met s name i R) j ≡ at R j
unfolding met
met-before begins name i j R l h = let f = l.from in plus-before (seen i) 1 j (named i name R) (omega arith) h ∙ named-before i name j R l h
met-before blank name i j R l h = let f = l.from in plus-before (seen i) 1 j (named i name R) (omega arith) h ∙ named-before i name j R l h
met-before ends name i j R l h = refl
met-before inside name i j R l h = refl

to-line : (s : Sort) (i : ℕ) → Line i → other ≤ bits_to s i
unfolding bits_to
to-line begins i l = let f = l.from in omega arith
to-line blank i l = let f = l.from in omega arith
to-line ends i l = let f = l.from in omega arith
to-line inside i l = let f = l.from in omega arith

counted-before : (s : Sort) (name bits i j : ℕ) (R : List ℕ) → Line i → j < other → at (counted s name bits i R) j ≡ at R j
unfolding counted
counted-before s name bits i j R l h = plus-before (bits_to s i) bits j (met s name i R) (to-line s i l) h ∙ met-before s name i j R l h

-- a list of events
pub record Sums (L : List Event) (R R' : List ℕ) : Type 0 where
  pub size : length R' ≡ length R
  pub bits : both R' ≡ both R + total L
  pub before : (j : ℕ) → j < other → at R' j ≡ at R j

pub counts-sum : (L : List Event) (stack R : List ℕ) → Lines stack → length R ≡ numbers → Sums L R (counts L stack R)
unfolding counts counted_then total
counts-sum [] stack R t n = record { size = refl; bits = omega arith; before = λ j h. refl }
counts-sum (e ∷ L) stack R t n =
    let s = sort_of e.kind in
    let i = line_for s e.p stack R in
    let l = for-line s e.p stack R t in
    let R₁ = counted s e.p e.bits i R in
    let len = counted-length s e.p e.bits i R in
    let r = counts-sum L (open_after s i stack) R₁ (lines_after s i stack l t) (len ∙ n) in
    let b = counted-both s e.p e.bits i R l n in
    let rb = r.bits in
    record {
      size = r.size ∙ len;
      bits = omega arith;
      before = λ j h. r.before j h ∙ counted-before s e.p e.bits i j R l h;
    }

-- a number that is no line's: the columns stay
head-both : (j v : ℕ) (R : List ℕ) → j < other → both (set R j v) ≡ both R
head-both j v R h =
    let a = column-out 2 1025 68 j v R (λ p e f g. omega arith) in
    let b = column-out 3 1025 68 j v R (λ p e f g. omega arith) in
    omega arith

pub at-plus : (i v : ℕ) (R : List ℕ) (j : ℕ) → i < length R → at (plus i v R) j ≡ at R j + cond (eqb j i) v 0
at-plus i v R j h = go (eqb j i) refl
  where
    go : (u : Bool) → eqb j i ≡ u → at (plus i v R) j ≡ at R j + cond u v 0
    go true e = let z = eqb-true j i e in rw z (get_or-set_same R i (at R i + v) 0 h)
    go false e = let z = get_or-set_other R i j (at R i + v) 0 (eqb-false j i e) in omega arith

-- what a payload did to a report that went on
pub record Step (bytes number : ℕ) (R R' : List ℕ) : Type 0 where
  pub size : length R' ≡ numbers
  pub balance : both R' + at R' mode_bits + at R' padding_bits + at R total_bits ≡ both R + at R mode_bits + at R padding_bits + at R' total_bits
  pub total : at R' total_bits ≡ at R total_bits + 8 * bytes
  pub count : (k : ℕ) → k < answers → at R' (answered + k) ≡ at R (answered + k) + cond (eqb number k) 1 0

module _ (bytes bits : ℕ) (L : List Event) (R : List ℕ) (n : length R ≡ numbers) (sum : 8 + total L ≡ bits) (fit : bits ≤ 8 * bytes) where
  R₁ : List ℕ
  R₁ = plus total_bits (8 * bytes) R

  R₂ : List ℕ
  R₂ = plus mode_bits 8 R₁

  R₃ : List ℕ
  R₃ = plus padding_bits (8 * bytes - bits) R₂

  R₄ : List ℕ
  R₄ = plus answered 1 R₃

  n₁ : length R₁ ≡ numbers
  unfolding R₁
  n₁ = length-set R total_bits (at R total_bits + 8 * bytes) ∙ n

  n₂ : length R₂ ≡ numbers
  unfolding R₂
  n₂ = length-set R₁ mode_bits (at R₁ mode_bits + 8) ∙ n₁

  n₃ : length R₃ ≡ numbers
  unfolding R₃
  n₃ = length-set R₂ padding_bits (at R₂ padding_bits + (8 * bytes - bits)) ∙ n₂

  n₄ : length R₄ ≡ numbers
  unfolding R₄
  n₄ = length-set R₃ answered (at R₃ answered + 1) ∙ n₃

  heads : (j : ℕ) → at R₄ j ≡ at R j + cond (eqb j 1) (8 * bytes) 0 + cond (eqb j 2) 8 0 + cond (eqb j 3) (8 * bytes - bits) 0 + cond (eqb j 4) 1 0
  unfolding R₁ R₂ R₃ R₄
  heads j =
      let a = at-plus total_bits (8 * bytes) R j (omega arith) in
      let b = at-plus mode_bits 8 R₁ j (omega (arith, n₁)) in
      let c = at-plus padding_bits (8 * bytes - bits) R₂ j (omega (arith, n₂)) in
      let d = at-plus answered 1 R₃ j (omega (arith, n₃)) in
      omega arith

  heads-both : both R₄ ≡ both R
  unfolding R₁ R₂ R₃ R₄
  heads-both =
      head-both answered (at R₃ answered + 1) R₃ (omega arith) ∙ head-both padding_bits (at R₂ padding_bits + (8 * bytes - bits)) R₂ (omega arith)
      ∙ head-both mode_bits (at R₁ mode_bits + 8) R₁ (omega arith) ∙ head-both total_bits (at R total_bits + 8 * bytes) R (omega arith)

  accepts-step : Step bytes 0 R (accepts bytes bits L R)
  unfolding accepts R₁ R₂ R₃ R₄
  accepts-step =
      let r = counts-sum L [] R₄ tt n₄ in
      let b = r.bits in
      let h = heads-both in
      let e₁ = r.before 1 (omega arith) ∙ heads 1 in
      let e₂ = r.before 2 (omega arith) ∙ heads 2 in
      let e₃ = r.before 3 (omega arith) ∙ heads 3 in
      record {
        size = r.size ∙ n₄;
        balance = omega arith;
        total = omega arith;
        count = λ k l. r.before (answered + k) (omega arith) ∙ heads (answered + k) ∙ nth k;
      }
    where
      nth : (k : ℕ) → at R (4 + k) + cond (eqb (4 + k) 1) (8 * bytes) 0 + cond (eqb (4 + k) 2) 8 0 + cond (eqb (4 + k) 3) (8 * bytes - bits) 0 + cond (eqb (4 + k) 4) 1 0 ≡ at R (4 + k) + cond (eqb 0 k) 1 0
      nth zero = omega arith
      nth (suc k) =
          rw (ne_eqb (4 + suc k) 1 (λ e. omega arith), ne_eqb (4 + suc k) 2 (λ e. omega arith), ne_eqb (4 + suc k) 3 (λ e. omega arith), ne_eqb (4 + suc k) 4 (λ e. omega arith), ne_eqb 0 (suc k) (λ e. omega arith)) (omega arith)

one-if : (k number : ℕ) → ◌≡◌ {A = ℕ} (cond (eqb (answered + k) (answered + number)) 1 0) (cond (eqb number k) 1 0)
one-if k number = go (eqb number k) refl
  where
    go : (u : Bool) → eqb number k ≡ u → ◌≡◌ {A = ℕ} (cond (eqb (answered + k) (answered + number)) 1 0) (cond u 1 0)
    go true e = let z = eqb-true number k e in rw (eq-eqb (answered + k) (answered + number) (omega arith))
    go false e = let z = eqb-false number k e in rw (ne_eqb (answered + k) (answered + number) (λ q. z (omega arith)))

module _ (number : ℕ) (R : List ℕ) (n : length R ≡ numbers) (positive : 0 < number) where
  refuses-step : Step 0 number R (refuses number R)
  unfolding refuses
  refuses-step = go (ltb number answers) refl
    where
      go : (u : Bool) → ltb number answers ≡ u → Step 0 number R (cond u (plus (answered + number) 1 R) R)
      go true e =
          let l = ltb-true number answers e in
          let h = head-both (answered + number) (at R (answered + number) + 1) R (omega arith) in
          let e₁ = get_or-set_other R (answered + number) 1 (at R (answered + number) + 1) 0 (λ q. omega arith) in
          let e₂ = get_or-set_other R (answered + number) 2 (at R (answered + number) + 1) 0 (λ q. omega arith) in
          let e₃ = get_or-set_other R (answered + number) 3 (at R (answered + number) + 1) 0 (λ q. omega arith) in
          record {
            size = length-set R (answered + number) (at R (answered + number) + 1) ∙ n;
            balance = omega arith;
            total = omega arith;
            count = λ k b. at-plus (answered + number) 1 R (answered + k) (omega arith) ∙ ap (λ (x : ℕ). at R (answered + k) + x) (one-if k number);
          }
      go false e =
          let l = ltb-false number answers e in
          record { size = n; balance = refl; total = omega arith; count = λ k b. rw (ne_eqb number k (λ q. omega arith)) (omega arith) }

-- a payload added to a report that goes on
pub went_on : (number bytes bits : ℕ) (L : List Event) (R : List ℕ) → 0 < length R → at R stopped ≡ 0 → at (adds number bytes bits L R) stopped ≡ 0 → adds number bytes bits L R ≡ sums number bytes bits L R
unfolding adds settled
went_on number bytes bits L R l z h = going number bytes bits L R z ∙ go (fits (sums number bytes bits L R)) (ap (λ (x : List ℕ). at x stopped) (sym (going number bytes bits L R z)) ∙ h)
  where
    go : (u : Bool) → at (cond u (sums number bytes bits L R) (set R stopped 1)) stopped ≡ 0 → cond u (sums number bytes bits L R) (set R stopped 1) ≡ sums number bytes bits L R
    go true e = refl
    go false e = absurd (let y = get_or-set_same R stopped 1 0 l in omega arith)

pub refused-sums : (number bytes bits : ℕ) (L : List Event) (R : List ℕ) → 0 < number → sums number bytes bits L R ≡ refuses number R
unfolding sums
refused-sums zero bytes bits L R h = absurd (omega arith)
refused-sums (suc k) bytes bits L R h = refl

pub refused-least : (a : Payload) (k p : ℕ) (π : List ℕ) → reply_to a ≡ declined k p π → 0 < k
unfolding outcome
refused-least a zero p π e =
    let y = zero-accepts a.table a.party a.name a.type a.bytes a.words a.texts (ap (λ (r : Reply). (outcome r).number) e) in
    absurd (let w = y.is in let z : ◌≡◌ {A = ℕ} 0 1 = cc in omega arith)
refused-least a (suc k) p π e = omega arith

added-step : (a : Payload) (R : List ℕ) → length R ≡ numbers → at R stopped ≡ 0 → at (added (length a.bytes) (reply_to a) R) stopped ≡ 0
    → Step (bytes_if (reply_to a) (length a.bytes)) (outcome (reply_to a)).number R (added (length a.bytes) (reply_to a) R)
unfolding added bytes_if outcome sums
added-step a R n z h = go (reply_to a) refl h
  where
    go : (r : Reply) → reply_to a ≡ r → at (added (length a.bytes) r R) stopped ≡ 0 → Step (bytes_if r (length a.bytes)) (outcome r).number R (added (length a.bytes) r R)
    go (accepted mode ns q) e f =
        let sum = bits-add-up a.table a.party a.name a.type a.bytes a.words a.texts mode ns q e in
        let fit = (list-fits a.table a.party a.name a.type a.bytes a.words a.texts mode ns q e).payload-suffices in
        rw (went_on 0 (length a.bytes) q (events ns) R (omega arith) z f) (accepts-step (length a.bytes) q (events ns) R n sum fit)
    go (declined k p π) e f =
        rw (went_on k (length a.bytes) 0 [] R (omega arith) z f, refused-sums k (length a.bytes) 0 [] R (refused-least a k p π e)) (refuses-step k R n (refused-least a k p π e))

-- one that has stopped stays so
pub stopped-stays : (H : List Payload) (R : List ℕ) → (at R stopped ≡ 0 → ⊥) → after H R ≡ R
unfolding after added
stopped-stays [] R z = refl
stopped-stays (a ∷ H) R z = ap (after H) (go (reply_to a)) ∙ stopped-stays H R z
  where
    go : (r : Reply) → added (length a.bytes) r R ≡ R
    go (accepted mode ns q) = (stops-where 0 (length a.bytes) q (events ns) R).stays z
    go (declined k p π) = (stops-where k (length a.bytes) 0 [] R).stays z

pub record From (H : List Payload) (R R' : List ℕ) : Type 0 where
  pub balance : both R' + at R' mode_bits + at R' padding_bits + at R total_bits ≡ both R + at R mode_bits + at R padding_bits + at R' total_bits
  pub total : at R' total_bits ≡ at R total_bits + 8 * accepted_bytes H
  pub count : (k : ℕ) → k < answers → at R' (answered + k) ≡ at R (answered + k) + answered_with k H

from : (H : List Payload) (R : List ℕ) → length R ≡ numbers → at R stopped ≡ 0 → at (after H R) stopped ≡ 0 → From H R (after H R)
unfolding after accepted_bytes answered_with
from [] R n z h = record { balance = refl; total = omega arith; count = λ k l. omega arith }
from (a ∷ H) R n z h = go (eqb (at R₁ stopped) 0) refl (λ y. from H R₁ (added-step a R n z y).size y h)
  where
    R₁ : List ℕ
    R₁ = added (length a.bytes) (reply_to a) R

    go : (u : Bool) → eqb (at R₁ stopped) 0 ≡ u → (at R₁ stopped ≡ 0 → From H R₁ (after H R₁)) → From (a ∷ H) R (after H R₁)
    go true e rest =
        let y = eqb-true (at R₁ stopped) 0 e in
        let s = added-step a R n z y in
        let r = rest y in
        let b₁ = s.balance in let b₂ = r.balance in let t₁ = s.total in let t₂ = r.total in
        record { balance = omega arith; total = omega arith; count = λ k l. let c₁ = s.count k l in let c₂ = r.count k l in omega arith }
    go false e rest = absurd (eqb-false (at R₁ stopped) 0 e (ap (λ (x : List ℕ). at x stopped) (sym (stopped-stays H R₁ (eqb-false (at R₁ stopped) 0 e))) ∙ h))

pub zeros-at : (m j : ℕ) → ◌≡◌ {A = ℕ} (get_or (replicate m 0) j 0) 0
zeros-at zero j = refl
zeros-at (suc m) zero = refl
zeros-at (suc m) (suc j) = zeros-at m j

zeros-column : (k n i m : ℕ) → column k n i (replicate m 0) ≡ 0
unfolding column
zeros-column k zero i m = refl
zeros-column k (suc n) i m = let a = zeros-at m (i + k) in let b = zeros-column k n (i + 4) m in omega arith

-- (a)
pub columns-add-up : (H : List Payload) → at (after H fresh) stopped ≡ 0 → ColumnsAddUp H (after H fresh)
columns-add-up H h =
    let f = from H fresh (length-replicate {A = ℕ} numbers 0) (zeros-at numbers 0) h in
    let b = f.balance in
    let t = f.total in
    let z₂ = zeros-column 2 1025 68 numbers in
    let z₃ = zeros-column 3 1025 68 numbers in
    let y₁ = zeros-at numbers 1 in
    let y₂ = zeros-at numbers 2 in
    let y₃ = zeros-at numbers 3 in
    record { columns = omega arith; total = omega arith; answers = λ k l. let c = f.count k l in let y = zeros-at numbers (answered + k) in omega arith }
