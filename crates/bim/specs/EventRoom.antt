-- What a call of the reading gives back, by the words lent for its events.
use Rattle.std.specs.Prelude.{ℕ, ◌≡◌, List}
use Rattle.model.specs.Whole.{Reply, Outcome, outcome, texts_left}
use Rattle.call_parts.specs.Calls.{events_back}
use Rattle.call_parts.specs.TableRoom.{place_in_table}

-- the words of the events of which a small payload seldom has more
abbrev pub few_event_words : ℕ
few_event_words = 512

abbrev pub outcome_in_table : (seen given : ℕ) → Outcome → Outcome
outcome_in_table seen given o =
    record {
      number = o.number;
      place = place_in_table seen given o.place;
      mode = o.mode;
      events = o.events;
      text = o.text;
      bits = o.bits;
      path = o.path;
    }

-- all that a call of the reading gives back: the answer, the events as bytes, the texts
pub record ReadBack (R : Reply) (e x : ℕ) (o : Outcome) (E X : List ℕ) : Type 0 where
  pub answer : o ≡ outcome R
  pub events : E ≡ events_back e R
  pub texts : X ≡ texts_left x R
