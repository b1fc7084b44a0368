-- What the answers of the code mean.
use Rattle.std.specs.Prelude.{ℕ, ◌+◌, ◌*◌, ◌<◌, ◌≡◌, List, cond, length, get_or, Result, Ok, Err}
use Rattle.numbers.specs.Refusal.{accepted}
use Rattle.numbers.specs.Refused.{number_of}
use Rattle.numbers.specs.declared.refusal.Fault.{Fault}
use Rattle.table.specs.First.{Verdict}
use Rattle.table.specs.First.Verdict.{right, wrong}
use Rattle.table.specs.Words.{word_at}
use Rattle.table.specs.Rows.{Row, Content, Attribute, first_of, count_of}
use Rattle.table.specs.Rows.Row.{element, sequence, choice, occurs}
use Rattle.table.specs.Rows.Content.{empty, simple, particles}
use Rattle.table.specs.declared.answers.Flaw.{Flaw}
use Rattle.table.specs.declared.answers.Content as code·content
use Rattle.table.specs.declared.answers.Content.TheVariants.{Empty, Simple, Particles}
use Rattle.table.specs.declared.answers.Particle as code·particle
use Rattle.table.specs.declared.answers.Particle.TheVariants.{Element, Sequence, Choice, Occurs}
use Rattle.table.specs.declared.answers.Attribute as code·attribute
use Rattle.table.specs.declared.answers.Span as code·span
use Rattle.table.specs.declared.answers.TypeList as code·types
use Rattle.table.specs.Setting.{Setting}

-- what a check answers, and what a setting
abbrev pub Checked : Type 0
Checked = Result Unit Flaw

abbrev pub Set : Type 0
Set = Result Unit (Fault ℕ)

abbrev pub verdict_is : Checked → Verdict
verdict_is (Ok u) = right
verdict_is (Err e) = wrong e.0

abbrev pub content_is : code·content.Content → Content
content_is Empty = empty
content_is (Simple kind b c) = simple kind b c
content_is (Particles row) = particles row

abbrev pub row_is : code·particle.Particle → Row
row_is (Element name type row) = element name type row
row_is (Sequence first count) = sequence first count
row_is (Choice first count) = choice first count
row_is (Occurs child least most) = occurs child least most

abbrev pub attribute_is : code·attribute.Attribute → Attribute
attribute_is a = record { name = a.name; must = a.must; simple = a.simple; b = a.b; c = a.c }

-- the attribute rows of a type, as the first and how many
pub record Spans (l : List ℕ) (t : ℕ) (r : code·span.Span) : Type 0 where
  pub first_is : r.first ≡ first_of l t
  pub count-is : r.count ≡ count_of l t

-- the place of one of a list of types; a list as it stands in the words
unfoldable pub listed_at : code·types.TypeList → ℕ → ℕ
listed_at r k = cond r.paired (r.first + 2 * k) (r.first + k)

pub record Listed (l types : List ℕ) (r : code·types.TypeList) : Type 0 where
  pub count-is : r.count ≡ length types
  pub each : (k : ℕ) → k < r.count → word_at l (listed_at r k) ≡ get_or types k 0

-- what became of setting a mark: its number and place; and with the words that are left
abbrev pub set_number : Set → ℕ
set_number (Ok u) = accepted
set_number (Err e) = number_of e.why

abbrev pub set_place : Set → ℕ
set_place (Ok u) = 0
set_place (Err e) = e.at

abbrev pub setting_is : Set → List ℕ → Setting
setting_is r words = record { number = set_number r; place = set_place r; words = words }
