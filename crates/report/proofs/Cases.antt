-- Request 11's examples, computed from the definitions: adds in turn, and the numbers that are not 0 afterwards, each behind its place.
use Prim.Native.Nat.{ℕ, ◌+◌, ◌-◌}
use mathlib.Core.Path.{◌≡◌, refl}
use mathlib.Core.Bool.{Bool, true, false}
use mathlib.Core.List.{List, [], ◌∷◌}
use lib.Dec.{eqb}
use lib.ListN.{length, replicate, set}
use Rattle.wire.specs.Res
use Rattle.wire.specs.Bits
use Rattle.wire.specs.Width
use Rattle.wire.specs.Number
use Rattle.signed.specs.Words as signed
use Rattle.utf8.specs.Text as utf8
use Rattle.table.specs.First
use Rattle.table.specs.Valid
use Rattle.table.specs.Rows
use Rattle.value.specs.Code
use Rattle.value.specs.Simple
use Rattle.model.specs.Model
use Rattle.model.specs.Items
use Rattle.model.specs.Read
use Rattle.model.specs.Whole
use Rattle.model.specs.Whole.{reading}
use Rattle.model.proofs.Example.{words}
use Rattle.report.specs.Places.{numbers, limit}
use Rattle.report.specs.Report
use Rattle.report.specs.Report.{added}

abbrev fresh : List ℕ
fresh = replicate numbers 0

-- the places and numbers that are not 0
unless0 : Bool → ℕ → ℕ → List ℕ → List ℕ
unless0 true i x rest = rest
unless0 false i x rest = i ∷ x ∷ rest

places : ℕ → List ℕ → List ℕ
places i [] = []
places i (x ∷ R) = unless0 (eqb x 0) i x (places (i + 1) R)

worked : List ℕ
worked = 0x8F ∷ 0x8C ∷ 0xAA ∷ 0x15 ∷ 0x12 ∷ 0x43 ∷ 0x4E ∷ 0x0C ∷ 0x20 ∷ []

-- the same with a wrong last byte
wrong : List ℕ
wrong = 0x8F ∷ 0x8C ∷ 0xAA ∷ 0x15 ∷ 0x12 ∷ 0x43 ∷ 0x4E ∷ 0x0C ∷ 0x21 ∷ []

-- one type, of a Boolean
boolean : List ℕ
boolean = 1 ∷ 1 ∷ 0 ∷ 0 ∷ 1 ∷ 1 ∷ 0 ∷ 0 ∷ 0 ∷ 0 ∷ 0 ∷ []

add : (table : List ℕ) (name type : ℕ) (payload : List ℕ) → List ℕ → List ℕ
add table name type s R = added (length s) (reading table 0 name type s 8192 8192) R

-- the page's adds in turn
one : List ℕ
one = add (words 1) 10 0 worked fresh

two : List ℕ
two = add (words 0) 10 0 worked one

three : List ℕ
three = add (words 1) 10 0 wrong two

four : List ℕ
four = add (words 1) 10 4 worked three

five : List ℕ
five = add boolean 1 0 (0x0F ∷ 0x80 ∷ []) four

-- a fresh report but for one number
near : (place number : ℕ) → List ℕ
near i n = set fresh i n

pub told : List (List ℕ)
told =
    places 0 one
    ∷ places 0 two
    ∷ places 0 three
    ∷ places 0 four
    ∷ places 0 five
    ∷ places 0 (add (words 1) 10 0 worked (near 1 (limit - 72)))
    ∷ places 0 (add (words 1) 10 0 wrong (add (words 1) 10 0 worked (near 1 (limit - 72))))
    ∷ places 0 (add (words 1) 10 4 worked (near 6 (limit - 1)))
    ∷ []

pub cases : told ≡
    (1 ∷ 72 ∷ 2 ∷ 8 ∷ 3 ∷ 4 ∷ 4 ∷ 1 ∷ 72 ∷ 10 ∷ 73 ∷ 1 ∷ 74 ∷ 17 ∷ 76 ∷ 11 ∷ 77 ∷ 1 ∷ 78 ∷ 31 ∷ 80 ∷ 12 ∷ 81 ∷ 2 ∷ 82 ∷ 12 ∷ [])
    ∷ (1 ∷ 144 ∷ 2 ∷ 16 ∷ 3 ∷ 8 ∷ 4 ∷ 2 ∷ 72 ∷ 10 ∷ 73 ∷ 2 ∷ 74 ∷ 34 ∷ 76 ∷ 11 ∷ 77 ∷ 2 ∷ 78 ∷ 31 ∷ 79 ∷ 31 ∷ 80 ∷ 12 ∷ 81 ∷ 4 ∷ 82 ∷ 24 ∷ [])
    ∷ (1 ∷ 144 ∷ 2 ∷ 16 ∷ 3 ∷ 8 ∷ 4 ∷ 2 ∷ 21 ∷ 1 ∷ 72 ∷ 10 ∷ 73 ∷ 2 ∷ 74 ∷ 34 ∷ 76 ∷ 11 ∷ 77 ∷ 2 ∷ 78 ∷ 31 ∷ 79 ∷ 31 ∷ 80 ∷ 12 ∷ 81 ∷ 4 ∷ 82 ∷ 24 ∷ [])
    ∷ (1 ∷ 144 ∷ 2 ∷ 16 ∷ 3 ∷ 8 ∷ 4 ∷ 2 ∷ 6 ∷ 1 ∷ 21 ∷ 1 ∷ 72 ∷ 10 ∷ 73 ∷ 2 ∷ 74 ∷ 34 ∷ 76 ∷ 11 ∷ 77 ∷ 2 ∷ 78 ∷ 31 ∷ 79 ∷ 31 ∷ 80 ∷ 12 ∷ 81 ∷ 4 ∷ 82 ∷ 24 ∷ [])
    ∷ (1 ∷ 160 ∷ 2 ∷ 24 ∷ 3 ∷ 15 ∷ 4 ∷ 3 ∷ 6 ∷ 1 ∷ 21 ∷ 1 ∷ 72 ∷ 10 ∷ 73 ∷ 2 ∷ 74 ∷ 34 ∷ 76 ∷ 11 ∷ 77 ∷ 2 ∷ 78 ∷ 31 ∷ 79 ∷ 31 ∷ 80 ∷ 12 ∷ 81 ∷ 4 ∷ 82 ∷ 24 ∷ 84 ∷ 1 ∷ 85 ∷ 1 ∷ 86 ∷ 1 ∷ [])
    ∷ (0 ∷ 1 ∷ 1 ∷ 18446744073709551544 ∷ [])
    ∷ (0 ∷ 1 ∷ 1 ∷ 18446744073709551544 ∷ [])
    ∷ (0 ∷ 1 ∷ 6 ∷ 18446744073709551615 ∷ [])
    ∷ []
unfolding unless0 Report.line_from Report.line_of Report.named Report.sort_of Report.innermost Report.outer Report.line_for Report.bits_to Report.met Report.open_after Report.counted Report.counted_then Report.counts Report.accepts Report.refuses Report.sums Report.fits Report.settled Report.adds Report.added places worked wrong boolean add one two three four five near told words Model.chosen Model.default_type Model.effective_type Model.sends Model.codes Items.substitute_code Items.type_code Items.codes_at Read.cast_at Whole.lengths_number Whole.modes_for Whole.mode_by Simple.one_of Valid.derived_words Valid.substitute_words Valid.among Valid.once Valid.words_from Valid.type_pair Valid.row_pair Valid.derived_row Valid.substitute_row Valid.type_pair_row Valid.row_pair_row Valid.cast_words Valid.form_words Valid.form_size Valid.count_words Valid.length_right Rows.substitutes_from Rows.substitutes_of Rows.derived_from Rows.derived_of Model.event_of Model.value Model.maybe Model.attribute Model.attributes Model.contents Model.rows Model.within Model.due Model.plan Model.◌then◌ Model.flag_of Model.events Model.texts Model.tree_slots Model.tree_bytes Model.tree_bits Items.form_of Items.form_at Items.item_at Items.length_at Items.head_at Read.onto Read.after Read.code Read.kept Read.stored Read.met Read.ended Read.closed Read.entered Read.bare Read.sized Read.opened Read.element_at Read.read Whole.mode_byte Whole.mode_number Whole.mode_of Whole.zeros Whole.padding Whole.padded Whole.replied Whole.root_in Whole.in_mode Whole.payload Whole.asked Whole.after_asked Whole.after_verdict Whole.reading Code.HasCode Code.bits_of Code.choice_at Code.number_at Code.signed_of Code.some_of Code.code_at Code.fits Code.code_out Code.size_out Simple.span_code Simple.range_code Simple.unbounded_code Simple.bounded_code Simple.times_code Simple.simple_of Simple.bytes Simple.bytes_at Simple.unless Simple.text_of Simple.simple_at First.first First.◌then◌ First.judge Valid.given Valid.header_words Valid.front_words Valid.unused_words Valid.range_words Valid.enumeration_words Valid.kind_words Valid.empty_words Valid.simple_words Valid.particles_words Valid.content_words Valid.attribute_words Valid.element_words Valid.group_words Valid.occurs_words Valid.particle_words Valid.rows Valid.type_row Valid.attribute_row Valid.particle_row Valid.row_words Valid.verdict_from Valid.verdict Valid.right_at Rows.content_from Rows.row_from Rows.content_of Rows.row_at Rows.row_of Rows.attribute_of Rows.attributes_from Rows.first_of Rows.count_of Rows.attributes_of Rows.table_of Rows.held_of Res.◌>>=◌ Res.◌>>◌ Res.guard Res.at_most Bits.bit_at Bits.num Bits.fixed_at Bits.digits Width.least_from Width.width Number.ones_at Number.is_short Number.groups_at Number.number5 Number.second8_at Number.number8 Number.strict Number.read5 Number.read8 Number.more Number.code_of5 Number.code5 Number.code8 utf8.has utf8.lines utf8.begun utf8.open-lines utf8.goes_on utf8.is_control utf8.has_control utf8.fault_of utf8.text_fault signed.gap_of signed.sign_of signed.magnitude_of signed.word_of signed.wrapped
cases = refl
