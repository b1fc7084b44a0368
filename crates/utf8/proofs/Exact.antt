-- `text_fault` is 0 exactly for the texts of RFC 3629 whose octets are all allowed; `not_utf8` for what is no such text, and `control` for all else.
use Prim.Native.Nat.{ℕ}
use mathlib.Core.Bool.{Bool, true, false}
use mathlib.Core.Logic.{◌⊎◌, inl, inr}
use mathlib.Core.Path.{◌≡◌, refl, sym, ap, subst, ◌∙◌}
use mathlib.Core.List.{List, [], ◌∷◌, ◌++◌}
use mathlib.Core.Option.{Option, none, some}
use native.Mathlib.Omega.{arith}
use Rattle.numbers.specs.Refusal.{not_utf8, control}
use Rattle.utf8.specs.Rfc.{In, Char, utf8_1, utf8_2, utf8_3_E0, utf8_3_E1_EC, utf8_3_ED, utf8_3_EE_EF, utf8_4_F0, utf8_4_F1_F3, utf8_4_F4, Octets, empty, more}
use Rattle.utf8.specs.Controls.{AllAllowed}
use Rattle.utf8.specs.Text.{Range, ◌to◌, lines, begun, open-lines, goes_on, has_control, fault_of, text_fault}
use Rattle.utf8.specs.Steps.{◌leads◌, rows}
use Rattle.utf8.proofs.Look.{refuted, has_in}
use Rattle.utf8.proofs.Rows.{Among, among, start-among}
use Rattle.utf8.proofs.Left.{left, going, left-next}
use Rattle.utf8.proofs.Lines.{InRanges, whole, then, all, ◌and◌, IsLine, lines_are, Begun, begun-line}
use Rattle.utf8.proofs.ControlLaws.{all-allowed, allowed_all}
use Rattle.utf8.specs.declared.State.{State}
use Rattle.utf8.specs.declared.State.TheVariants.{Start, OneLeft, TwoLeft, ThreeLeft, AfterE0, AfterED, AfterF0, AfterF4}

-- the octets are what is wanted, and then a text
record Split (wanted : List Range) (l : List ℕ) : Type 0 where
  front : List ℕ
  back : List ℕ
  joined : front ++ back ≡ l
  fits : InRanges wanted front
  text : Octets back

-- one octet more in front: it begins a character, or goes on with one
character : {x : ℕ} {l : List ℕ} {rest : List Range} → Begun IsLine x rest → Split rest l → Octets (x ∷ l)
unfolding IsLine
character {x} b s =
    subst (λ (m : List ℕ). Octets (x ∷ m)) s.joined (more (b.holds (x ∷ s.front) (then b.within s.fits)) s.text)

onward : {x : ℕ} {l : List ℕ} {rest wanted : List Range} → Begun (λ line. line ≡ wanted) x rest → Split rest l → Split wanted (x ∷ l)
onward {x} b s =
    record {
      front = x ∷ s.front;
      back = s.back;
      joined = ap (λ (m : List ℕ). x ∷ m) s.joined;
      fits = rw b.holds at (then b.within s.fits);
      text = s.text;
    }

at-start : {l : List ℕ} → Octets l → Split [] l
at-start {l} o = record { front = []; back = l; joined = refl; fits = whole; text = o }

nothing-before : {c l : List ℕ} → InRanges [] c → Octets l → Octets (c ++ l)
nothing-before whole o = o

text_of : {l : List ℕ} → Split [] l → Octets l
text_of s = subst Octets s.joined (nothing-before s.fits s.text)

step_back : (wanted : List Range) (x : ℕ) (l : List ℕ) (o : Option (List Range)) → begun (open-lines wanted) x ≡ o → elim o [ some rest ↦ goes_on rest l | none ↦ false ] ≡ true → ((rest : List Range) → goes_on rest l ≡ true → Split rest l) → Split wanted (x ∷ l)
unfolding open-lines
step_back wanted x l none b e ih = refuted false e refl
step_back [] x l (some rest) b e ih = at-start (character (begun-line IsLine x rest lines_are b) (ih rest e))
step_back (range ∷ wanted) x l (some rest) b e ih = onward (begun-line (λ line. line ≡ range ∷ wanted) x rest (refl and all) b) (ih rest e)

split : (wanted : List Range) (l : List ℕ) → goes_on wanted l ≡ true → Split wanted l
unfolding goes_on
split [] [] e = at-start empty
split (range ∷ rest) [] e = refuted false e refl
split wanted (x ∷ l) e = step_back wanted x l (begun (open-lines wanted) x) refl e (λ rest. split rest l)

-- what is wanted, in front of a text, changes nothing
fits-goes : {wanted : List Range} {c : List ℕ} (l : List ℕ) → InRanges wanted c → goes_on wanted (c ++ l) ≡ goes_on [] l
unfolding goes_on begun open-lines
fits-goes l whole = refl
fits-goes l (then {lo} {hi} {x} w f) = rw (goes_on, has_in lo hi x w) (fits-goes l f)

-- nor does a character, whose first octet leads to the state that wants the rest
begins : (s : State) {lo hi x : ℕ} {rest : List Range} {c : List ℕ} (l : List ℕ) → Among (lo to hi leads s) (rows Start) → left s ≡ some rest → In lo hi x → InRanges rest c → goes_on [] ((x ∷ c) ++ l) ≡ goes_on [] l
unfolding goes_on going left open-lines
begins s {x = x} {rest = rest} l m e w f =
    let b : begun lines x ≡ some rest = left-next Start x ∙ ap left (sym (start-among m w)) ∙ e in
    rw (goes_on, b) (fits-goes l f)

char-goes : {c : List ℕ} (l : List ℕ) → Char c → goes_on [] (c ++ l) ≡ goes_on [] l
unfolding rows left
char-goes l (utf8_1 a) = begins Start l (search among depth 12) refl a whole
char-goes l (utf8_2 a b) = begins OneLeft l (search among depth 12) refl a (then b whole)
char-goes l (utf8_3_E0 a b c) = begins AfterE0 l (search among depth 12) refl a (then b (then c whole))
char-goes l (utf8_3_E1_EC a b c) = begins TwoLeft l (search among depth 12) refl a (then b (then c whole))
char-goes l (utf8_3_ED a b c) = begins AfterED l (search among depth 12) refl a (then b (then c whole))
char-goes l (utf8_3_EE_EF a b c) = begins TwoLeft l (search among depth 12) refl a (then b (then c whole))
char-goes l (utf8_4_F0 a b c d) = begins AfterF0 l (search among depth 12) refl a (then b (then c (then d whole)))
char-goes l (utf8_4_F1_F3 a b c d) = begins ThreeLeft l (search among depth 12) refl a (then b (then c (then d whole)))
char-goes l (utf8_4_F4 a b c d) = begins AfterF4 l (search among depth 12) refl a (then b (then c (then d whole)))

octets-go : {l : List ℕ} → Octets l → goes_on [] l ≡ true
unfolding goes_on
octets-go empty = refl
octets-go (more {l = l} c o) = char-goes l c ∙ octets-go o

-- no fault, exactly for the texts of the RFC without control characters
pub fault-none : {l : List ℕ} → Octets l → AllAllowed l → text_fault l ≡ 0
unfolding text_fault fault_of
fault-none o a = rw (octets-go o, all-allowed a)

-- which of the two tests failed
record Judged (l : List ℕ) (goes found : Bool) : Type 0 where
  is : text_fault l ≡ fault_of goes found
  text : goes ≡ true → Octets l
  free : found ≡ false → AllAllowed l

judged : (l : List ℕ) → Judged l (goes_on [] l) (has_control l)
unfolding text_fault
judged l = record { is = refl; text = λ g. text_of (split [] l g); free = allowed_all l }

pub none-fault : (l : List ℕ) → text_fault l ≡ 0 → Octets l × AllAllowed l
unfolding fault_of
none-fault l e = go (goes_on [] l) (has_control l) (judged l)
  where
    go : (goes found : Bool) → Judged l goes found → Octets l × AllAllowed l
    go true false j = (j.text refl, j.free refl)
    go true true j = let f = j.is in absurd (omega arith)
    go false found j = let f = j.is in absurd (omega arith)

pub fault-is : (l : List ℕ) → (text_fault l ≡ 0) ⊎ ((text_fault l ≡ not_utf8) ⊎ (text_fault l ≡ control))
unfolding fault_of
fault-is l = go (goes_on [] l) (has_control l) (judged l)
  where
    go : (goes found : Bool) → Judged l goes found → (text_fault l ≡ 0) ⊎ ((text_fault l ≡ not_utf8) ⊎ (text_fault l ≡ control))
    go true false j = inl j.is
    go true true j = inr (inr j.is)
    go false found j = inr (inl j.is)

-- the whole text is judged for `not_utf8` first
pub fault-else : (l : List ℕ) → (Octets l → ⊥) → text_fault l ≡ not_utf8
unfolding fault_of
fault-else l h = go (goes_on [] l) (has_control l) (judged l)
  where
    go : (goes found : Bool) → Judged l goes found → text_fault l ≡ not_utf8
    go true found j = absurd (h (j.text refl))
    go false found j = j.is

pub fault-control : {l : List ℕ} → Octets l → (AllAllowed l → ⊥) → text_fault l ≡ control
unfolding fault_of
fault-control {l} o h = go (goes_on [] l) (has_control l) (octets-go o) (judged l)
  where
    go : (goes found : Bool) → goes ≡ true → Judged l goes found → text_fault l ≡ control
    go true true g j = j.is
    go true false g j = absurd (h (j.free refl))
    go false found g j = refuted false g refl
