-- Theorem (b): each line holds what its name comes to.
use Prim.Native.Nat.{ℕ, zero, suc, ◌+◌, ◌-◌, ◌*◌, ◌%◌, ◌≤◌}
use mathlib.Core.Path.{◌≡◌, refl, sym, ap, ◌∙◌}
use mathlib.Core.Bool.{Bool, true, false, cond}
use mathlib.Core.List.{List, [], ◌∷◌, map}
use native.Mathlib.Omega.{arith}
use borrow.Author.Tests.{ltb-true, eq-eqb, ne_eqb, eqb-true, eqb-false}
use lib.Dec.{eqb, ltb}
use lib.ListN.{length, replicate, length-set, length-replicate}
use lib.Seq.{get_or-set_other}
use Rattle.model.specs.Model.{Event, Nodes, events}
use Rattle.model.specs.Model.Nodes.{none, leaf, node}
use Rattle.model.specs.Items.{Mode}
use Rattle.model.specs.Whole.{Reply}
use Rattle.model.specs.Whole.Reply.{accepted, declined}
use Rattle.theorems.proofs.Reader.{reading-sound}
use Rattle.report.specs.Places.{numbers, stopped, total_bits, mode_bits, padding_bits, answered, answers, other, first_line, lines}
use Rattle.report.specs.Report.{Sort, at, plus, line_from, line_of, sort_of, innermost, outer, line_for, bits_to, met, open_after, counted, counted_then, counts, accepts, refuses, sums, added}
use Rattle.report.specs.Report.Sort.{begins, blank, ends, inside}
use Rattle.report.specs.Sums.{Line, Lines}
use Rattle.report.specs.Owners.{innermost_is, owner_is, owned_by, met_once, met_by, blanked_once, blanked_by, tree_owned, noted, noted_if, notes, place_from, place_of}
use Rattle.report.specs.Theorems.{Payload, reply_to, fresh, after, of_tree, over, notes_of, names_met, LineHolds, LinesHold}
use Rattle.report.proofs.Passing.{for-line}
use Rattle.report.proofs.Columns.{counted-length, went_on, refused-sums, stopped-stays, zeros-at, refused-least}
use Rattle.model.proofs.Leaves.{is-leaves}
use Rattle.report.proofs.Owners.{root-all, tree-owned}
use Rattle.report.proofs.NameLines.{Match, found, has-noted, Stable, stable-notes, place_is, place-lines, Kept, match-kept, match-noted, put-at, met-noted, met_at}

-- whose an event is, a Blank's too
whose : (ℕ → Bool) → Bool → Sort → ℕ → List ℕ → Bool
whose f out begins x names = f x
whose f out blank x names = f x
whose f out ends x names = innermost_is f out names
whose f out inside x names = innermost_is f out names

-- an event of the line i, and the numbers of the line p
pub record Grown (f : ℕ → Bool) (out : Bool) (s : Sort) (x b : ℕ) (names R R' : List ℕ) (p : ℕ) : Type 0 where
  pub seen_is : at R' (p + 1) ≡ at R (p + 1) + met_once f s x
  pub own_is : at R' (p + 2) ≡ at R (p + 2) + cond (owner_is f out s x names) b 0
  pub blanked_is : at R' (p + 3) ≡ at R (p + 3) + blanked_once f s x b

nothing : (u : Bool) → cond {A = ℕ} u 0 0 ≡ 0
nothing true = refl
nothing false = refl

grown : (f : ℕ → Bool) (out : Bool) (s : Sort) (x b i : ℕ) (names R : List ℕ) (p : ℕ) → Line i → p % 4 ≡ 0 → length R ≡ numbers → whose f out s x names ≡ eqb i p
    → Grown f out s x b names R (counted s x b i R) p
unfolding whose met_once owner_is blanked_once counted met bits_to
grown f out begins x b i names R p l g n w =
    let bits-only : 0 + b ≡ b = omega arith in
    let m = met_at 2 (omega arith) (omega arith) x b i l R n in
    record {
      seen_is = m 1 p g (omega arith) (omega arith) ∙ rw w refl;
      own_is = m 2 p g (omega arith) (omega arith) ∙ rw w (ap (λ (z : ℕ). at R (p + 2) + cond (eqb i p) z 0) bits-only);
      blanked_is = m 3 p g (omega arith) (omega arith) ∙ ap (λ (z : ℕ). at R (p + 3) + z) (nothing (eqb i p));
    }
grown f out blank x b i names R p l g n w =
    let bits-only : 0 + b ≡ b = omega arith in
    let m = met_at 3 (omega arith) (omega arith) x b i l R n in
    record {
      seen_is = m 1 p g (omega arith) (omega arith) ∙ rw w refl;
      own_is = m 2 p g (omega arith) (omega arith) ∙ ap (λ (z : ℕ). at R (p + 2) + z) (nothing (eqb i p));
      blanked_is = m 3 p g (omega arith) (omega arith) ∙ rw w (ap (λ (z : ℕ). at R (p + 3) + cond (eqb i p) z 0) bits-only);
    }
grown f out ends x b i names R p l g n w =
    let h = l.whole in let t = l.to in
    record {
      seen_is = put-at 2 1 i p b R h g (omega arith) (omega arith) (omega arith) ∙ ap (λ (z : ℕ). at R (p + 1) + z) (nothing (eqb i p));
      own_is = put-at 2 2 i p b R h g (omega arith) (omega arith) (omega arith) ∙ rw w refl;
      blanked_is = put-at 2 3 i p b R h g (omega arith) (omega arith) (omega arith) ∙ ap (λ (z : ℕ). at R (p + 3) + z) (nothing (eqb i p));
    }
grown f out inside x b i names R p l g n w =
    let h = l.whole in let t = l.to in
    record {
      seen_is = put-at 2 1 i p b R h g (omega arith) (omega arith) (omega arith) ∙ ap (λ (z : ℕ). at R (p + 1) + z) (nothing (eqb i p));
      own_is = put-at 2 2 i p b R h g (omega arith) (omega arith) (omega arith) ∙ rw w refl;
      blanked_is = put-at 2 3 i p b R h g (omega arith) (omega arith) (omega arith) ∙ ap (λ (z : ℕ). at R (p + 3) + z) (nothing (eqb i p));
    }

own-kept : (i b : ℕ) (R : List ℕ) → i % 4 ≡ 0 → (j : ℕ) → j % 4 ≡ 0 → Kept R (plus (i + 2) b R) j
own-kept i b R w j g =
    record { name = get_or-set_other R (i + 2) j (at R (i + 2) + b) 0 (λ e. omega arith); times = get_or-set_other R (i + 2) (j + 1) (at R (i + 2) + b) 0 (λ e. omega arith) }

-- the names so far after an event
match-event : (N : List ℕ) (s : Sort) (x b : ℕ) (stack R : List ℕ) → Lines stack → length R ≡ numbers → Match N lines first_line R
    → Match (noted_if s x N) lines first_line (counted s x b (line_for s x stack R) R)
unfolding noted_if counted met bits_to line_for line_of
match-event N begins x b stack R t n h =
    match-noted N x lines first_line _ R _ (omega arith) (omega arith) h (found N x lines first_line R h) (met-noted 2 (omega arith) (omega arith) x b (line_from R x lines first_line) (for-line begins x stack R t) R n)
match-event N blank x b stack R t n h =
    match-noted N x lines first_line _ R _ (omega arith) (omega arith) h (found N x lines first_line R h) (met-noted 3 (omega arith) (omega arith) x b (line_from R x lines first_line) (for-line blank x stack R t) R n)
match-event N ends x b stack R t n h = match-kept N lines first_line R _ (omega arith) (λ j a g. own-kept (innermost stack) b R (for-line ends x stack R t).whole j g) h
match-event N inside x b stack R t n h = match-kept N lines first_line R _ (omega arith) (λ j a g. own-kept (innermost stack) b R (for-line inside x stack R t).whole j g) h

-- the numbers before the lines, of an accepted payload
module _ (bytes bits : ℕ) (R : List ℕ) where
  abbrev R₁ : List ℕ
  R₁ = plus total_bits (8 * bytes) R

  abbrev R₂ : List ℕ
  R₂ = plus mode_bits 8 R₁

  abbrev R₃ : List ℕ
  R₃ = plus padding_bits (8 * bytes - bits) R₂

  abbrev heads : List ℕ
  heads = plus answered 1 R₃

  heads-length : length heads ≡ length R
  heads-length =
      length-set R₃ answered (at R₃ answered + 1) ∙ length-set R₂ padding_bits (at R₂ padding_bits + (8 * bytes - bits)) ∙ length-set R₁ mode_bits (at R₁ mode_bits + 8)
      ∙ length-set R total_bits (at R total_bits + 8 * bytes)

  heads-same : (j : ℕ) → other ≤ j → at heads j ≡ at R j
  heads-same j l =
      get_or-set_other R₃ answered j (at R₃ answered + 1) 0 (λ e. omega arith) ∙ get_or-set_other R₂ padding_bits j (at R₂ padding_bits + (8 * bytes - bits)) 0 (λ e. omega arith)
      ∙ get_or-set_other R₁ mode_bits j (at R₁ mode_bits + 8) 0 (λ e. omega arith) ∙ get_or-set_other R total_bits j (at R total_bits + 8 * bytes) 0 (λ e. omega arith)

-- F is what the names become in the end: a name's line is its place there
module _ (F : List ℕ) where
  abbrev pub in-line : ℕ → ℕ → Bool
  in-line p x = eqb (place_of F x) p

  line-place : (N : List ℕ) (x : ℕ) (R : List ℕ) → Match N lines first_line R → Stable F (noted x N) → line_of R x ≡ place_of F x
  unfolding line_of place_of
  line-place N x R h k = found N x lines first_line R h ∙ k x (has-noted x N)

  whose-line : (N : List ℕ) (s : Sort) (x : ℕ) (names R : List ℕ) (p : ℕ) → Match N lines first_line R → Stable F (noted_if s x N)
      → whose (in-line p) (eqb other p) s x names ≡ eqb (line_for s x (map (place_of F) names) R) p
  unfolding whose noted_if line_for innermost_is innermost
  whose-line N begins x names R p h k = ap (λ (i : ℕ). eqb i p) (sym (line-place N x R h k))
  whose-line N blank x names R p h k = ap (λ (i : ℕ). eqb i p) (sym (line-place N x R h k))
  whose-line N ends x [] R p h k = refl
  whose-line N ends x (y ∷ names) R p h k = refl
  whose-line N inside x [] R p h k = refl
  whose-line N inside x (y ∷ names) R p h k = refl

  stack-after : (N : List ℕ) (s : Sort) (x : ℕ) (names R : List ℕ) → Match N lines first_line R → Stable F (noted_if s x N)
      → open_after s (line_for s x (map (place_of F) names) R) (map (place_of F) names) ≡ map (place_of F) (open_after s x names)
  unfolding open_after outer noted_if line_for
  stack-after N begins x names R h k = ap (λ (i : ℕ). i ∷ map (place_of F) names) (line-place N x R h k)
  stack-after N blank x names R h k = refl
  stack-after N ends x [] R h k = refl
  stack-after N ends x (y ∷ names) R h k = refl
  stack-after N inside x names R h k = refl

  -- a list of events
  pub record Listed (L : List Event) (names N R R' : List ℕ) : Type 0 where
    pub size : length R' ≡ numbers
    pub match : Match (notes L N) lines first_line R'
    pub seen_is : (p : ℕ) → p % 4 ≡ 0 → at R' (p + 1) ≡ at R (p + 1) + met_by (in-line p) L
    pub own_is : (p : ℕ) → p % 4 ≡ 0 → at R' (p + 2) ≡ at R (p + 2) + owned_by (in-line p) (eqb other p) L names
    pub blanked_is : (p : ℕ) → p % 4 ≡ 0 → at R' (p + 3) ≡ at R (p + 3) + blanked_by (in-line p) L

  pub listed : (L : List Event) (names N R : List ℕ) → length R ≡ numbers → Match N lines first_line R → Stable F (notes L N) → Listed L names N R (counts L (map (place_of F) names) R)
  unfolding counts counted_then notes met_by owned_by blanked_by
  listed [] names N R n h k = record { size = n; match = h; seen_is = λ p g. omega arith; own_is = λ p g. omega arith; blanked_is = λ p g. omega arith }
  listed (e ∷ L) names N R n h k =
      let s = sort_of e.kind in
      let stack = map (place_of F) names in
      let t = place-lines F names in
      let i = line_for s e.p stack R in
      let l = for-line s e.p stack R t in
      let R₁ = counted s e.p e.bits i R in
      let N₁ = noted_if s e.p N in
      let k₁ = stable-notes F L N₁ k in
      let r = listed L (open_after s e.p names) N₁ R₁ (counted-length s e.p e.bits i R ∙ n) (match-event N s e.p e.bits stack R t n h) k in
      let g₁ : (p : ℕ) → p % 4 ≡ 0 → Grown (in-line p) (eqb other p) s e.p e.bits names R R₁ p =
      λ p g. grown (in-line p) (eqb other p) s e.p e.bits i names R p l g n (whose-line N s e.p names R p h k₁) in
      rw (stack-after N s e.p names R h k₁)
      (record {
        size = r.size;
        match = r.match;
        seen_is = λ p g. let a = r.seen_is p g in let b = (g₁ p g).seen_is in omega arith;
        own_is = λ p g. let a = r.own_is p g in let b = (g₁ p g).own_is in omega arith;
        blanked_is = λ p g. let a = r.blanked_is p g in let b = (g₁ p g).blanked_is in omega arith;
      })

  -- a payload: what its tree comes to
  pub record Paid (r : Reply) (N R R' : List ℕ) : Type 0 where
    pub size : length R' ≡ numbers
    pub match : Match (notes_of r N) lines first_line R'
    pub seen_is : (p : ℕ) → p % 4 ≡ 0 → other ≤ p → at R' (p + 1) ≡ at R (p + 1) + of_tree (λ ns. met_by (in-line p) (events ns)) r
    pub own_is : (p : ℕ) → p % 4 ≡ 0 → other ≤ p → at R' (p + 2) ≡ at R (p + 2) + of_tree (tree_owned (in-line p)) r
    pub blanked_is : (p : ℕ) → p % 4 ≡ 0 → other ≤ p → at R' (p + 3) ≡ at R (p + 3) + of_tree (λ ns. blanked_by (in-line p) (events ns)) r

  abbrev Owns : Nodes → Type 0
  Owns ns = (f : ℕ → Bool) (out : Bool) → owned_by f out (events ns) [] ≡ tree_owned f ns

  accepts-paid : (bytes bits : ℕ) (mode : Mode) (ns : Nodes) (N R : List ℕ) → Owns ns → length R ≡ numbers → Match N lines first_line R → Stable F (notes (events ns) N)
      → Paid (accepted mode ns bits) N R (accepts bytes bits (events ns) R)
  unfolding accepts of_tree notes_of
  accepts-paid bytes bits mode ns N R tree n h k =
      let r = listed (events ns) [] N (heads bytes bits R) (heads-length bytes bits R ∙ n) (match-kept N lines first_line R (heads bytes bits R) (omega arith) (λ j a g. record { name = heads-same bytes bits R j (omega arith); times = heads-same bytes bits R (j + 1) (omega arith) }) h) k in
      record {
        size = r.size;
        match = r.match;
        seen_is = λ p g b. let x = r.seen_is p g in let y = heads-same bytes bits R (p + 1) (omega arith) in omega arith;
        own_is = λ p g b. let x = r.own_is p g in let y = heads-same bytes bits R (p + 2) (omega arith) in let z = tree (in-line p) (eqb other p) in omega arith;
        blanked_is = λ p g b. let x = r.blanked_is p g in let y = heads-same bytes bits R (p + 3) (omega arith) in omega arith;
      }

  refuses-paid : (number p : ℕ) (π N R : List ℕ) → length R ≡ numbers → Match N lines first_line R → Paid (declined number p π) N R (refuses number R)
  unfolding refuses of_tree notes_of
  refuses-paid number q π N R n h = go (ltb number answers) refl
    where
      go : (u : Bool) → ltb number answers ≡ u → Paid (declined number q π) N R (cond u (plus (answered + number) 1 R) R)
      go true e =
          let l = ltb-true number answers e in
          let same : (j : ℕ) → other ≤ j → at (plus (answered + number) 1 R) j ≡ at R j = λ j b. get_or-set_other R (answered + number) j (at R (answered + number) + 1) 0 (λ z. omega arith) in
          record {
            size = length-set R (answered + number) (at R (answered + number) + 1) ∙ n;
            match = match-kept N lines first_line R _ (omega arith) (λ j a g. record { name = same j (omega arith); times = same (j + 1) (omega arith) }) h;
            seen_is = λ p g b. let y = same (p + 1) (omega arith) in omega arith;
            own_is = λ p g b. let y = same (p + 2) (omega arith) in omega arith;
            blanked_is = λ p g b. let y = same (p + 3) (omega arith) in omega arith;
          }
      go false e = record { size = n; match = h; seen_is = λ p g b. omega arith; own_is = λ p g b. omega arith; blanked_is = λ p g b. omega arith }

-- of a reading, the list's owner is the tree's
pub reading-owned : (a : Payload) (mode : Mode) (ns : Nodes) (q : ℕ) → reply_to a ≡ accepted mode ns q → (f : ℕ → Bool) (out : Bool) → owned_by f out (events ns) [] ≡ tree_owned f ns
reading-owned a mode ns q e f out =
    let is = (reading-sound a.table a.party a.name a.type a.bytes a.words a.texts mode ns q e).is.found.is in
    tree-owned f out ns (is-leaves is) (root-all is)

-- payloads added in turn
module _ (F : List ℕ) where
  added-paid : (a : Payload) (N R : List ℕ) → length R ≡ numbers → at R stopped ≡ 0 → at (added (length a.bytes) (reply_to a) R) stopped ≡ 0 → Match N lines first_line R
      → Stable F (notes_of (reply_to a) N) → Paid F (reply_to a) N R (added (length a.bytes) (reply_to a) R)
  unfolding added sums notes_of
  added-paid a N R n z h m k = go (reply_to a) refl h k
    where
      go : (r : Reply) → reply_to a ≡ r → at (added (length a.bytes) r R) stopped ≡ 0 → Stable F (notes_of r N) → Paid F r N R (added (length a.bytes) r R)
      go (accepted mode ns q) e f k =
          rw (went_on 0 (length a.bytes) q (events ns) R (omega arith) z f) (accepts-paid F (length a.bytes) q mode ns N R (reading-owned a mode ns q e) n m k)
      go (declined c p π) e f k =
          rw (went_on c (length a.bytes) 0 [] R (omega arith) z f, refused-sums c (length a.bytes) 0 [] R (refused-least a c p π e)) (refuses-paid F c p π N R n m)

  pub record AllPaid (H : List Payload) (N R R' : List ℕ) : Type 0 where
    pub match : Match (names_met H N) lines first_line R'
    pub seen_is : (p : ℕ) → p % 4 ≡ 0 → other ≤ p → at R' (p + 1) ≡ at R (p + 1) + over (λ ns. met_by (in-line F p) (events ns)) H
    pub own_is : (p : ℕ) → p % 4 ≡ 0 → other ≤ p → at R' (p + 2) ≡ at R (p + 2) + over (tree_owned (in-line F p)) H
    pub blanked_is : (p : ℕ) → p % 4 ≡ 0 → other ≤ p → at R' (p + 3) ≡ at R (p + 3) + over (λ ns. blanked_by (in-line F p) (events ns)) H

  stable-met : (H : List Payload) (N : List ℕ) → Stable F (names_met H N) → Stable F N
  unfolding names_met notes_of
  stable-met [] N h = h
  stable-met (a ∷ H) N h = go (reply_to a) (stable-met H (notes_of (reply_to a) N) h)
    where
      go : (r : Reply) → Stable F (notes_of r N) → Stable F N
      go (accepted mode ns q) k = stable-notes F (events ns) N k
      go (declined c p π) k = k

  all_paid : (H : List Payload) (N R : List ℕ) → length R ≡ numbers → at R stopped ≡ 0 → at (after H R) stopped ≡ 0 → Match N lines first_line R → Stable F (names_met H N) → AllPaid H N R (after H R)
  unfolding after names_met over
  all_paid [] N R n z h m k = record { match = m; seen_is = λ p g b. omega arith; own_is = λ p g b. omega arith; blanked_is = λ p g b. omega arith }
  all_paid (a ∷ H) N R n z h m k =
      go (eqb (at R₁ stopped) 0) refl (λ y. added-paid a N R n z y m (stable-met H (notes_of (reply_to a) N) k)) (λ y s. all_paid H (notes_of (reply_to a) N) R₁ s.size y h s.match k)
    where
      R₁ : List ℕ
      R₁ = added (length a.bytes) (reply_to a) R

      go : (u : Bool) → eqb (at R₁ stopped) 0 ≡ u → (at R₁ stopped ≡ 0 → Paid F (reply_to a) N R R₁)
          → (at R₁ stopped ≡ 0 → Paid F (reply_to a) N R R₁ → AllPaid H (notes_of (reply_to a) N) R₁ (after H R₁)) → AllPaid (a ∷ H) N R (after H R₁)
      go true e first rest =
          let y = eqb-true (at R₁ stopped) 0 e in
          let s = first y in
          let r = rest y s in
          record {
            match = r.match;
            seen_is = λ p g b. let c₁ = s.seen_is p g b in let c₂ = r.seen_is p g b in omega arith;
            own_is = λ p g b. let c₁ = s.own_is p g b in let c₂ = r.own_is p g b in omega arith;
            blanked_is = λ p g b. let c₁ = s.blanked_is p g b in let c₂ = r.blanked_is p g b in omega arith;
          }
      go false e first rest = absurd (eqb-false (at R₁ stopped) 0 e (ap (λ (x : List ℕ). at x stopped) (sym (stopped-stays H R₁ (eqb-false (at R₁ stopped) 0 e))) ∙ h))

zeros-match : (n i m : ℕ) → Match [] n i (replicate m 0)
unfolding Match
zeros-match zero i m = tt
zeros-match (suc n) i m = (zeros-at m (i + 1), zeros-match n (i + 4) m)

-- a line in use has its name
match-name : (N : List ℕ) (x n i : ℕ) (R : List ℕ) → Match N n i R → (place_from N x n i ≡ other → ⊥) → at R (place_from N x n i) ≡ x
unfolding Match place_from
match-name N x zero i R h o = absurd (o refl)
match-name [] x (suc n) i R h o = absurd (o refl)
match-name (y ∷ N) x (suc n) i R h o = go (eqb y x) refl o (match-name N x n (i + 4) R h.2)
  where
    go : (u : Bool) → eqb y x ≡ u → (cond u i (place_from N x n (i + 4)) ≡ other → ⊥) → ((place_from N x n (i + 4) ≡ other → ⊥) → at R (place_from N x n (i + 4)) ≡ x)
        → at R (cond u i (place_from N x n (i + 4))) ≡ x
    go true e o later = h.0 ∙ eqb-true y x e
    go false e o later = later o

-- what two ways to ask agree in
module _ (f g : ℕ → Bool) (same : (x : ℕ) → f x ≡ g x) where
  met-same : (L : List Event) → met_by f L ≡ met_by g L
  unfolding met_by met_once
  met-same [] = refl
  met-same (e ∷ L) = go (sort_of e.kind) (met-same L)
    where
      go : (s : Sort) → met_by f L ≡ met_by g L → met_once f s e.p + met_by f L ≡ met_once g s e.p + met_by g L
      go begins q = rw (same e.p, q)
      go blank q = rw (same e.p, q)
      go ends q = rw q
      go inside q = rw q

  blanked-same : (L : List Event) → blanked_by f L ≡ blanked_by g L
  unfolding blanked_by blanked_once
  blanked-same [] = refl
  blanked-same (e ∷ L) = go (sort_of e.kind) (blanked-same L)
    where
      go : (s : Sort) → blanked_by f L ≡ blanked_by g L → blanked_once f s e.p e.bits + blanked_by f L ≡ blanked_once g s e.p e.bits + blanked_by g L
      go begins q = rw q
      go blank q = rw (same e.p, q)
      go ends q = rw q
      go inside q = rw q

  owned-same : (ns : Nodes) → tree_owned f ns ≡ tree_owned g ns
  unfolding tree_owned
  owned-same none = refl
  owned-same (leaf at e ts r) = owned-same r
  owned-same (node m i r) = rw (same m.name, owned-same i, owned-same r)

over-same : (g h : Nodes → ℕ) (H : List Payload) → ((a : Payload) (mode : Mode) (ns : Nodes) (q : ℕ) → reply_to a ≡ accepted mode ns q → g ns ≡ h ns) → over g H ≡ over h H
unfolding over of_tree
over-same g h [] k = refl
over-same g h (a ∷ H) k = go (reply_to a) refl (over-same g h H k)
  where
    go : (r : Reply) → reply_to a ≡ r → over g H ≡ over h H → of_tree g r + over g H ≡ of_tree h r + over h H
    go (accepted mode ns q) e p = rw (k a mode ns q e, p)
    go (declined c p π) e q = rw q

-- (b)
module _ (H : List Payload) (h : at (after H fresh) stopped ≡ 0) where
  abbrev F : List ℕ
  F = names_met H []

  abbrev R : List ℕ
  R = after H fresh

  paid : AllPaid F H [] fresh R
  paid = all_paid F H [] fresh (length-replicate {A = ℕ} numbers 0) (zeros-at numbers 0) h (zeros-match lines first_line numbers) (λ x e. refl)

  other-is : Line other
  other-is = record { from = omega arith; to = omega arith; whole = omega arith }

  name : (x : ℕ) → (place_of F x ≡ other → ⊥) → at R (place_of F x) ≡ x
  unfolding place_of
  name x o = match-name F x lines first_line R paid.match o

  one : (x y : ℕ) → (place_of F x ≡ other → ⊥) → eqb (place_of F y) (place_of F x) ≡ eqb y x
  one x y o = go (eqb y x) refl
    where
      go : (u : Bool) → eqb y x ≡ u → eqb (place_of F y) (place_of F x) ≡ u
      go true e = eq-eqb (place_of F y) (place_of F x) (ap (place_of F) (eqb-true y x e))
      go false e = ne_eqb (place_of F y) (place_of F x) (λ q. eqb-false y x e (sym (name y (λ z. o (sym q ∙ z))) ∙ ap (at R) q ∙ name x o))

  line : (f : ℕ → Bool) (i : ℕ) → Line i → ((y : ℕ) → in-line F i y ≡ f y) → LineHolds H R f i
  line f i l same =
      let z₁ = zeros-at numbers (i + 1) in let z₂ = zeros-at numbers (i + 2) in let z₃ = zeros-at numbers (i + 3) in
      let s = paid.seen_is i l.whole l.from in
      let o = paid.own_is i l.whole l.from in
      let b = paid.blanked_is i l.whole l.from in
      let s' = over-same (λ ns. met_by (in-line F i) (events ns)) (λ ns. met_by f (events ns)) H (λ a mode ns q e. met-same (in-line F i) f same (events ns)) in
      let o' = over-same (tree_owned (in-line F i)) (tree_owned f) H (λ a mode ns q e. owned-same (in-line F i) f same ns) in
      let t = over-same (λ ns. owned_by f false (events ns) []) (tree_owned f) H (λ a mode ns q e. reading-owned a mode ns q e f false) in
      let b' = over-same (λ ns. blanked_by (in-line F i) (events ns)) (λ ns. blanked_by f (events ns)) H (λ a mode ns q e. blanked-same (in-line F i) f same (events ns)) in
      record { seen_is = omega arith; own_is = omega arith; tree_is = omega arith; blanked_is = omega arith }

  pub lines-hold : LinesHold H (after H fresh)
  lines-hold =
      record {
        named = name;
        first = λ x o. line (λ y. eqb y x) (place_of F x) (place_is F x) (λ y. one x y o);
        others = line (in-line F other) other other-is (λ y. refl);
      }
