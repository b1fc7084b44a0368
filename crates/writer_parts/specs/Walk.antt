-- What a function of the walk promises: where it goes on, the writing gave bits which the notes now spell, with the events and texts from there
-- on left over; where it stops, the writing was refused so.
use Rattle.std.specs.Prelude.{Result, Ok, Err}
use Rattle.numbers.specs.declared.refusal.Fault.{Fault}
use Rattle.numbers.specs.declared.refusal.Refusal.{Refusal}
use Rattle.writer_parts.specs.declared.judging.Words.{Words}
use Rattle.numbers.specs.Refused.{number_of}
use Rattle.std.specs.Prelude.{ℕ, suc, ◌+◌, ◌-◌, ◌*◌, ◌/◌, ◌<◌, ◌≤◌, ◌≡◌, cond, List, [], ltb, leb, length, get_or, take, drop}
use Rattle.numbers.specs.Refusal.{no_reading, outside_row, text_bytes}
use Rattle.numbers.specs.Limit.{most_events, most_text}
use Rattle.wire.specs.Res.{Res}
use Rattle.utf8.specs.Text.{text_fault}
use Rattle.model.specs.Model.{Item}
use Rattle.model.specs.Write.{Bare, Out, wrote, refused, unlike, taken, coded}
use Rattle.model.specs.WriteSteps.{item_then}
use Rattle.model.specs.Whole.{event_at, events_from}
use Rattle.writer_parts.specs.declared.Spot.{Spot}
use Rattle.writer_parts.specs.Notes.{spells}

-- how many events the words L are; events and texts from a cursor on
abbrev pub events_in : List ℕ → ℕ
events_in L = length L / 4

unfoldable pub events_at : List ℕ → ℕ → List Bare
events_at L i = events_from L i (events_in L - i)

unfoldable pub texts_at : List ℕ → ℕ → List ℕ
texts_at X used = drop used X

-- room for every event's note; a cursor within the list, its counts small
pub record Ready (L X N : List ℕ) (c : Spot) : Type 0 where
  pub sized : events_in L ≤ length N
  pub few : events_in L ≤ most_events
  pub inside : c.event ≤ events_in L
  pub used : c.used ≤ length X
  pub short : c.used ≤ most_text * c.event
  pub small : c.bits ≤ 40000 * c.event

-- the notes of the events between two cursors
abbrev pub between : List ℕ → List ℕ → Spot → Spot → List ℕ
between X N c e = spells X N c.event (e.event - c.event)

pub record Went (L X : List ℕ) (o : Out) (c : Spot) (N : List ℕ) (e : Spot) (M : List ℕ) : Type 0 where
  pub out : o ≡ wrote (between X M c e) (events_at L e.event) (texts_at X e.used)
  pub counts : e.bits ≡ c.bits + length (between X M c e)
  pub onward : c.event ≤ e.event
  pub ready : Ready L X M e
  pub before : (j : ℕ) → j < c.event → get_or M j 0 ≡ get_or N j 0

pub record Stopped (L : List ℕ) (o : Out) (number at : ℕ) : Type 0 where
  pub out : o ≡ refused number (events_in L - at)
  pub inside : at ≤ events_in L

-- where the walk goes on, or what is refused and where
abbrev pub Judgement : Type 0
Judgement = Result Spot (Fault ℕ)

abbrev pub Ended : List ℕ → List ℕ → Out → Spot → List ℕ → Judgement → List ℕ → Type 0
Ended L X o c N (Ok e) M = Went L X o c N e M
Ended L X o c N (Err f) M = Stopped L o (number_of f.why) f.at

-- words, texts, what was to be written, cursor and notes before, answer, notes after
pub record Walked (L X : List ℕ) (o : Out) (c : Spot) (N : List ℕ) (r : Judgement) (M : List ℕ) : Type 0 where
  pub is : Ended L X o c N r M

-- a meaning from a cursor on
abbrev pub Walks : List ℕ → List ℕ → (List Bare → List ℕ → Out) → Spot → List ℕ → Judgement → List ℕ → Type 0
Walks L X f c N r M = Walked L X (f (events_at L c.event) (texts_at X c.used)) c N r M

-- a cursor past one event, with nothing counted
abbrev pub past : Spot → Spot
past c = record { event = c.event + 1; used = c.used; bits = c.bits }

-- the walk went on from past c to e, and its bits were counted along
pub record Sealing (L X N : List ℕ) (c e : Spot) : Type 0 where
  pub started : c.event < e.event
  pub ready : Ready L X N e
  pub counts : e.bits ≡ c.bits + length (between X N (past c) e)

abbrev pub wanted : ℕ → ℕ → ℕ → Bare
wanted kind p q = record { kind = kind; p = p; q = q }

-- what is wrong with event i where f is wanted; no_reading where there is none
unfoldable pub judged : List ℕ → ℕ → Bare → ℕ
judged L i f = cond (ltb i (events_in L)) (unlike f (event_at L i)) no_reading

-- what is wrong with event i by its kind alone, whatever words are wanted; else it is there, and of the kind
pub record KindJudged (L : List ℕ) (i kind b : ℕ) : Type 0 where
  pub wrong : 0 < b → (p q : ℕ) → b ≡ judged L i (wanted kind p q)
  pub there : b ≡ 0 → i < events_in L
  pub same : b ≡ 0 → kind ≡ get_or L (4 * i) 0

-- the words of event i, where they were read
abbrev pub WordsIs : (L : List ℕ) (i : ℕ) → Result Words Refusal → Type 0
WordsIs L i (Ok e) = (e.p ≡ get_or L (4 * i + 1) 0) × (e.q ≡ get_or L (4 * i + 2) 0)
WordsIs L i (Err e) = Unit {0}

pub record WordsOf (L : List ℕ) (i : ℕ) (r : Result Words Refusal) : Type 0 where
  pub is : WordsIs L i r

-- one event taken as f, and bits and texts left as they were worked out, or their fault
unfoldable pub noted : Bare → Res (List ℕ × List ℕ) → List Bare → Out
noted f m M = taken (λ e. f) M (λ e N. coded m (suc (length N)) (λ (w, U). wrote w N U))

-- what is wrong with v bytes of the texts from a place on, as a text
unfoldable pub text_wrong : List ℕ → ℕ → ℕ → ℕ
text_wrong X used v = cond (leb v most_text) (cond (leb v (length (texts_at X used))) (text_fault (take v (texts_at X used))) text_bytes) outside_row

-- an item by itself
unfoldable pub alone : Item → List Bare → List ℕ → Out
alone i M T = item_then i M T (λ v N U. wrote [] N U)
