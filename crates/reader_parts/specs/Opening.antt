-- What becomes of an element behind its head, and what is left of it where it is open.
use Rattle.std.specs.Prelude.{ℕ, ◌<◌, ◌≡◌, List, ◌∷◌, Bool, true, false, cond}
use Rattle.wire.specs.Res.{Ensures}
use Rattle.model.specs.Model.{Types, only, codes, Answer}
use Rattle.model.specs.Items.{codes_at}
use Rattle.model.specs.Read.{Room, Into, after, code, cast_at, mark, bare, sized}
use Rattle.reader_parts.specs.declared.Cursor.{Cursor}
use Rattle.numbers.specs.Refused.{number_of}
use Rattle.reader_parts.specs.declared.Opened.{Opened}
use Rattle.reader_parts.specs.declared.Opened.TheVariants.{Refuse, Blank, Full, In}
use Rattle.reader_parts.specs.Out.{room_of, Out, outcome, ending}
use Rattle.reader_parts.specs.Out.Out.{went, stopped}

module _ (name : ℕ) (coded : Bool) (body wall : ℕ) where
  -- by whether the effective type is held: Start and the rest, a Blank, or 9; f reads what is inside, k is the substitute, p the place past the codes
  unfoldable pub becomes : (held sent : Bool) → Into → (t k p : ℕ) → Room → List ℕ → ℕ → Answer
  becomes held sent f t k p r π at =
      cond coded (sized held sent f (mark name t true at body) k r π wall body p) (bare held sent f (mark name t false at body) k r π wall body p)

  -- the same, once the codes are read
  unfoldable pub behind_head : (y : Types) (b : ℕ → ℕ) (held : ℕ → Bool) → Into → Room → List ℕ → ℕ → Answer
  behind_head y b held f r π at = code (codes_at y b wall body) π body (λ (t, k, p). becomes (held t) (codes y) f t k p r π at)

  -- what is left of an element that is open: what is inside, and its end
  unfoldable pub rest_of : Into → ℕ → Room → List ℕ → ℕ → Answer
  rest_of f t r π at = after r (f t r (name ∷ π) wall at) (λ u q. ending coded body wall u (name ∷ π) q)

  -- what an answer leaves, whatever the rest is
  unfoldable pub opened_view : (rest : ℕ → Room → List ℕ → ℕ → Answer) → Opened → (π E T : List ℕ) → Out
  opened_view rest (Refuse e) π E T = stopped (number_of e.why) e.at.0 π
  opened_view rest (Blank d) π E T = went d.at.0 d.count d.used π E T
  opened_view rest (Full e) π E T = stopped (number_of e.why) e.at.0 (name ∷ π)
  opened_view rest (In x) π E T = outcome (rest x.effective (room_of E T x.cursor) π x.cursor.at.0) x.cursor π E T

  -- the rest, with the codes' event still to be told
  unfoldable pub from_codes : (sent : Bool) → Into → (k p : ℕ) → ℕ → Room → List ℕ → ℕ → Answer
  from_codes sent f k p t r π at = after r (cast_at sent t k r (name ∷ π) at p) (λ u q. rest_of f t u π q)

  -- of an element that is open: its type and its place
  abbrev pub Placed : ℕ → Opened → Type 0
  Placed t (In x) = (x.effective ≡ t) × (x.cursor.at.0 ≡ body)
  Placed t (Refuse e) = Unit {0}
  Placed t (Blank d) = Unit {0}
  Placed t (Full e) = Unit {0}

  abbrev pub Below : ℕ → Opened → Type 0
  Below n (In x) = x.effective < n
  Below n (Refuse e) = Unit {0}
  Below n (Blank d) = Unit {0}
  Below n (Full e) = Unit {0}

  -- CONTRACTS, for every path, whatever is inside. Of an element of a type, held or not
  pub record Begins (t : ℕ) (held : Bool) (c : Cursor) (E : List ℕ) (r : Opened) (E' : List ℕ) : Type 0 where
    pub says : (sent : Bool) (f : Into) (k p : ℕ) (T π : List ℕ) → opened_view (from_codes sent f k p) r π E' T
        ≡ outcome (becomes held sent f t k p (room_of E T c) π c.at.0) c π E T
    pub placed : Placed t r

  -- of an element with its codes: an open one has a type that they can say
  pub record Opens (y : Types) (b : ℕ → ℕ) (held : ℕ → Bool) (c : Cursor) (E : List ℕ) (r : Opened) (E' : List ℕ) : Type 0 where
    pub says : (f : Into) (T π : List ℕ) → opened_view (rest_of f) r π E' T ≡ outcome (behind_head y b held f (room_of E T c) π c.at.0) c π E T
    pub below : (n : ℕ) → Ensures (codes_at y b wall body) (λ x. x.0 < n) → Below n r

  -- of an element that has nothing to choose from, whatever the bits are
  pub record OpensPlain (t : ℕ) (held : Bool) (c : Cursor) (E : List ℕ) (r : Opened) (E' : List ℕ) : Type 0 where
    pub says : (b : ℕ → ℕ) (h : ℕ → Bool) → held ≡ h t → Opens (only t) b h c E r E'
