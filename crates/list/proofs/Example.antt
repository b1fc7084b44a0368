-- Document 01's worked example as the program prints it, mended as READINGS says: the input's bytes and the text's, computed from the definitions.
use Prim.Native.Nat.{ℕ}
use Prim.Native.String.{String}
use mathlib.Core.Path.{◌≡◌, refl}
use mathlib.Core.List.{List, [], ◌∷◌, ◌++◌, map}
use lib.ListN.{length}
use Rattle.wire.specs.Res
use Rattle.wire.specs.Bits
use Rattle.wire.specs.Width
use Rattle.wire.specs.Number
use Rattle.signed.specs.Words as signed
use Rattle.utf8.specs.Text as utf8
use Rattle.table.specs.First
use Rattle.table.specs.Valid
use Rattle.table.specs.Rows
use Rattle.value.specs.Code
use Rattle.value.specs.Simple
use Rattle.model.specs.Model
use Rattle.model.specs.Items
use Rattle.model.specs.Read
use Rattle.model.specs.Whole
use Rattle.model.proofs.Example
use Rattle.model.proofs.Example.{words, worked}
use Rattle.buffers.specs.Bytes
use Rattle.buffers.specs.Bytes.{bytes_of, two}
use Rattle.list.specs.Ascii.{ascii}
use Rattle.list.specs.Listing
use Rattle.list.specs.Text
use Rattle.list.specs.Text.{printed_of}

-- the worked table, whether type 3 is held, root name 10 and type 0, and a payload
unfoldable pub input : ℕ → List ℕ → List ℕ
input held payload = bytes_of (length (words held) ∷ words held) ++ (two 10 ++ (two 0 ++ payload))

-- the text of the worked payload: a heading, and the lines of the first child between those that do not hang on it
unfoldable pub shown : (heading child : String) → List ℕ
shown heading child =
    ascii heading
    ++ (ascii "1 10 1 10\n2 20 1 1\n3 4294967295 0 3\n"
    ++ (ascii child
    ++ ascii "5 2 0 3\n1 12 1 5\n3 1 0 1\n6 0 0 0\n1 12 1 5\n3 0 0 1\n6 0 0 0\n6 0 0 0\n"))

pub record Case : Type 0 where
  pub given : List ℕ
  pub text : List ℕ

infix 25 ◌prints◌
abbrev pub ◌prints◌ : List ℕ → List ℕ → Case
s prints t = record { given = s; text = t }

-- P; the same with type 3 not held; padding that is not zero; an input that ends before its root type is whole
unfoldable pub listings : List Case
listings =
    (input 1 (worked 0xAA 0x20) prints shown "events 14 text 2 bits 68\n" "1 11 1 10\n3 2 0 21\n6 0 0 0\n")
    ∷ (input 0 (worked 0xAA 0x20) prints shown "events 12 text 0 bits 68\n" "7 11 3 31\n")
    ∷ (input 1 (worked 0xAA 0x21) prints ascii "refused 17 68\n")
    ∷ (bytes_of (0 ∷ []) prints ascii "refused 1 0\n")
    ∷ []

pub printed-cases : map (λ (c : Case). printed_of c.given) listings ≡ map (λ (c : Case). c.text) listings
unfolding input shown listings Bytes.words_of Bytes.spelled Listing.listed Listing.listing Text.places Text.decimal Text.heading Text.event_line Text.refusal Text.event_lines Text.printed Text.printed_of Example.words Example.worked Model.event_of Model.value Model.maybe Model.attribute Model.attributes Model.contents Model.rows Model.within Model.due Model.plan Model.◌then◌ Model.flag_of Model.events Model.texts Model.tree_slots Model.tree_bytes Model.tree_bits Items.form_of Items.form_at Items.item_at Items.length_at Items.head_at Read.onto Read.after Read.code Read.kept Read.stored Read.met Read.ended Read.closed Read.entered Read.bare Read.sized Read.opened Read.element_at Read.read Whole.mode_number Whole.lengths_number Whole.mode_byte Whole.modes_for Whole.mode_by Items.codes_at Items.substitute_code Items.type_code Model.chosen Model.codes Model.default_type Model.effective_type Model.sends Read.cast_at Rows.derived_from Rows.derived_of Rows.substitutes_from Rows.substitutes_of Simple.one_of Valid.form_size Valid.form_words Valid.length_right Whole.mode_of Whole.zeros Whole.padding Whole.padded Whole.replied Whole.root_in Whole.in_mode Whole.payload Whole.asked Whole.after_asked Whole.after_verdict Whole.reading Whole.event_words Whole.filled Whole.outcome Whole.events_left Code.choice_at Code.number_at Code.some_of Code.code_at Simple.first_word Simple.second_word Simple.span_code Simple.range_code Simple.bounded_code Simple.times_code Simple.simple_of Simple.bytes_at Simple.unless Simple.text_of Simple.simple_at First.first First.◌then◌ First.judge Valid.given Valid.header_words Valid.front_words Valid.unused_words Valid.range_words Valid.enumeration_words Valid.kind_words Valid.empty_words Valid.simple_words Valid.particles_words Valid.content_words Valid.attribute_words Valid.element_words Valid.group_words Valid.occurs_words Valid.particle_words Valid.rows Valid.type_row Valid.attribute_row Valid.particle_row Valid.row_words Valid.verdict_from Valid.verdict Rows.content_from Rows.row_from Rows.content_of Rows.row_at Rows.row_of Rows.attribute_of Rows.attributes_from Rows.first_of Rows.count_of Rows.attributes_of Rows.table_of Rows.held_of Res.◌>>=◌ Res.◌>>◌ Res.guard Res.at_most Bits.bit_at Bits.num Bits.fixed_at Bits.digits Width.least_from Width.width Number.ones_at Number.is_short Number.groups_at Number.number5 Number.strict Number.read5 utf8.has utf8.lines utf8.begun utf8.open-lines utf8.goes_on utf8.is_control utf8.has_control utf8.fault_of utf8.text_fault signed.gap_of
printed-cases = refl
