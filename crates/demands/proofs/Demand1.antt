-- DEMAND 1 of the calls.
use Prim.Native.Nat.{ℕ, ◌/◌, ◌≤◌}
use mathlib.Core.Path.{◌≡◌, refl, sym, ap, ◌∙◌}
use mathlib.Core.List.{List, [], ◌∷◌}
use native.Mathlib.Omega.{arith}
use native.Mathlib.Decide.{ℕ_discrete}
use borrow.Author.Tests.{eq-eqb, ne_eqb}
use lib.ListN.{length}
use Rattle.numbers.specs.Limit.{most_names}
use Rattle.numbers.specs.Limit as limit
use Rattle.wire.specs.Res.{Res, got, fault}
use Rattle.wire.specs.Bits.{bit_at}
use Rattle.table.specs.First.{Verdict}
use Rattle.table.specs.First.Verdict.{right, wrong}
use Rattle.model.specs.Whole.{Reply, accepted, declined, Outcome, declines, outcome, texts_left, Made, made, unmade, outcome_made, payload_left}
use Rattle.bit_reader.specs.Codes.{wall_of, coded, answered, reading_at}
use Rattle.bit_reader.specs.declared.codes.Coding.{Coding}
use Rattle.call_parts.specs.Area.{area_of}
use Rattle.call_parts.specs.Calls.{back, lent, judged, table_verdict, check_table, read_bytes, events_back, read_call, write_bytes, write_call, set_outcome, table_left, set_call}
use Rattle.bim.proofs.CallLaws.{unlent, lent-whole}
use Rattle.call_parts.proofs.SettingLaws.{refused-left, tells}
use Rattle.bim.specs.Bits as bits
use Rattle.reads.proofs.Paths.{path-most}
use Rattle.demands.specs.Demands.{Answered, AnsweredSet, AnsweredBits}

-- every call over an area: area_size, or an outcome, whose buffers are zero where its number is not 0
lent-answered : (area : ℕ) (sizes : List ℕ) (o : Outcome) (buffers : List (List ℕ))
    → (area ≡ limit.area → (o.number ≡ 0 → ⊥) → Answered area sizes (back o.number (area_of o) buffers))
    → Answered area sizes (lent area sizes o buffers)
lent-answered area sizes o buffers h = elim (ℕ_discrete area limit.area) [
  | yes e ↦ rw (lent-whole area sizes o buffers e)
      (elim (ℕ_discrete o.number 0) [ yes z ↦ Answered.accepted e z | no z ↦ h e z ])
  | no n ↦ Answered.no_area n (unlent area sizes o buffers n)
]

from_one : (n : ℕ) → (n ≡ 0 → ⊥) → 1 ≤ n
from_one n z = omega arith

pub check-answered : (t : List ℕ) (area : ℕ) → Answered area [] (check_table t area)
unfolding check_table
check-answered t area = lent-answered area [] (judged (table_verdict t)) [] (λ e n. go (table_verdict t) e n)
  where
    go : (v : Verdict) → area ≡ limit.area → ((judged v).number ≡ 0 → ⊥)
        → Answered area [] (back (judged v).number (area_of (judged v)) [])
    go right e n = absurd (n refl)
    go (wrong i) e n = Answered.refused 1 i [] e (omega arith) (omega arith) refl

pub read-answered : (t : List ℕ) (party name type : ℕ) (s : List ℕ) (e x area : ℕ)
    → Answered area (e ∷ x ∷ []) (read_call t party name type s e x area)
unfolding read_call outcome events_back texts_left
read-answered t party name type s e x area =
    lent-answered area (e ∷ x ∷ []) (outcome (read_bytes t party name type s e x)) _
    (λ y n. go (read_bytes t party name type s e x) (path-most t party name type s e x) y n)
  where
    go : (r : Reply) → length (outcome r).path ≤ most_names → area ≡ limit.area → ((outcome r).number ≡ 0 → ⊥)
        → Answered area (e ∷ x ∷ []) (back (outcome r).number (area_of (outcome r)) (events_back e r ∷ texts_left x r ∷ []))
    go (accepted mode ns q) h y n = absurd (n refl)
    go (declined k p π) h y n = Answered.refused k p π y (from_one k n) h refl

pub write-answered : (t : List ℕ) (party name type mode : ℕ) (E X : List ℕ) (room area : ℕ)
    → Answered area (room ∷ []) (write_call t party name type mode E X room area)
unfolding write_call outcome_made payload_left
write-answered t party name type mode E X room area = lent-answered area (room ∷ []) (told m₀) _ (λ y n. go m₀ y n)
  where
    told : Made → Outcome
    told m = outcome_made mode (length E / limit.event) (length X) m

    m₀ : Made
    m₀ = write_bytes t party name type mode E X room

    go : (m : Made) → area ≡ limit.area → ((told m).number ≡ 0 → ⊥)
        → Answered area (room ∷ []) (back (told m).number (area_of (told m)) (payload_left room m ∷ []))
    go (made s q) y n = absurd (n refl)
    go (unmade k p) y n = Answered.refused k p [] y (from_one k n) (omega arith) refl

pub set-answered : (t : List ℕ) (party type mark area : ℕ) → AnsweredSet t area (set_call t party type mark area)
unfolding set_call
set-answered t party type mark area = elim (ℕ_discrete area limit.area) [
  | yes e ↦ elim (ℕ_discrete n 0) [
    | yes z ↦ AnsweredSet.accepted e (rw (eq-eqb area limit.area e) z)
    | no z ↦ AnsweredSet.refused n o.place e (from_one n z)
        (rw (eq-eqb area limit.area e)
        (ap (λ (x : Outcome). back n (area_of x) (table_left t party type mark n ∷ [])) (tells t party type)
        ∙ ap (λ (x : List ℕ). back n (area_of (declines n o.place [])) (x ∷ [])) (sym (refused-left t party type mark n z))))
  ]
  | no e ↦ AnsweredSet.no_area e (rw (ne_eqb area limit.area e))
]
  where
    o : Outcome
    o = set_outcome t party type

    n : ℕ
    n = o.number

pub bits-answered : (s : List ℕ) (at : ℕ) (c : Coding) (area : ℕ) → AnsweredBits s at area (bits.bits_call s at c area)
unfolding bits.bits_call reading_at answered
bits-answered s at c area = elim (ℕ_discrete area limit.bits_area) [
  | yes e ↦ rw (eq-eqb area limit.bits_area e) (go (coded c (bit_at s) (wall_of s) at) e)
  | no n ↦ rw (ne_eqb area limit.bits_area n) (AnsweredBits.no_area n refl)
]
  where
    go : (m : Res (ℕ × ℕ)) → area ≡ limit.bits_area → AnsweredBits s at area (bits.told (answered s at m))
    go (got r) e = AnsweredBits.accepted e refl
    go (fault k) e = elim (ℕ_discrete k 0) [
      | yes z ↦ AnsweredBits.accepted e z
      | no z ↦ AnsweredBits.refused k e (from_one k z) refl
    ]
