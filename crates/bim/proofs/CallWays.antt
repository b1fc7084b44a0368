-- Each call's two ways: a size refused first, or the answer.
use Prim.Native.Nat.{ℕ, suc, ◌/◌}
use mathlib.Core.Path.{◌≡◌, sym, ap, ◌∙◌}
use mathlib.Core.List.{List, [], ◌∷◌}
use borrow.Author.Tests.{eq-eqb, ne_eqb}
use lib.ListN.{length}
use Rattle.numbers.specs.Refusal as refusal
use Rattle.numbers.specs.Refusal.{area_size}
use Rattle.numbers.specs.Limit as limit
use Rattle.value.specs.Simple.{AllBytes}
use Rattle.table.specs.Views.{Set, set_number, set_place}
use Rattle.buffers.proofs.BytesLaws.{Bytes}
use Rattle.report.specs.Places.{report_bytes}
use Rattle.call_parts.specs.Area.{area_of, told}
use Rattle.call_parts.specs.Calls.{back, zeros, table_verdict, judged, check_table, read_bytes, read_call, write_bytes, write_call, set_outcome, set_call}
use Rattle.call_parts.specs.Promises.{SetByBytes}
use Rattle.call_parts.proofs.SettingLaws.{tells}
use Rattle.reads.specs.Promises.{ReadBack}
use Rattle.reads.specs.Reports.{reported, report_call, read_for_report, AddedBy}
use Rattle.writes.specs.Promises.{WrittenBack}
use Rattle.bim.proofs.CallLaws.{unlent, lent-whole}

-- `bim_check_table`
module _ (t area area' : List ℕ) where
  pub check-unlent : (length area ≡ limit.area → ⊥) → area' ≡ zeros (length area) → back area_size area' [] ≡ check_table t (length area)
  unfolding check_table
  check-unlent n e = ap (λ (x : List ℕ). back area_size x []) e ∙ sym (unlent (length area) [] _ [] n)

  pub check-told : (r : ℕ) → length area ≡ limit.area → (r ≡ (judged (table_verdict t)).number) × (area' ≡ area_of (judged (table_verdict t))) → back r area' [] ≡ check_table t (length area)
  unfolding check_table
  check-told r w (n, a) = rw (n, a) (sym (lent-whole (length area) [] (judged (table_verdict t)) [] w))

pub ruleset check-ways = (check-unlent, check-told)

-- `bim_read`
module _ (t : List ℕ) (party name type : ℕ) (s E X A E' X' A' : List ℕ) where
  pub read-unlent : (length A ≡ limit.area → ⊥) → E' ≡ zeros (length E) → X' ≡ zeros (length X) → A' ≡ zeros (length A)
      → back area_size A' (E' ∷ X' ∷ []) ≡ read_call t party name type s (length E) (length X) (length A)
  unfolding read_call
  read-unlent n e x a = rw (e, x, a) (sym (unlent (length A) (length E ∷ length X ∷ []) _ _ n))

  pub read_told_lem : (r : ℕ) → length A ≡ limit.area → ReadBack (read_bytes t party name type s (length E) (length X)) (length E) (length X) r A' E' X'
      → back r A' (E' ∷ X' ∷ []) ≡ read_call t party name type s (length E) (length X) (length A)
  unfolding read_call
  read_told_lem r w b = rw (b.number, b.area, b.events, b.texts) (sym (lent-whole (length A) (length E ∷ length X ∷ []) _ _ w))

-- a list whose elements are bytes, as a slice's are
pub octets : (s : List ℕ) → Bytes s → AllBytes s
octets [] h = tt
octets (x ∷ s) h = (h 0, octets s (λ i. h (suc i)))

-- `bim_write`
module _ (t : List ℕ) (party name type mode : ℕ) (e x P A P' A' : List ℕ) where
  pub write-unlent : (length A ≡ limit.area → ⊥) → P' ≡ zeros (length P) → A' ≡ zeros (length A) → back area_size A' (P' ∷ []) ≡ write_call t party name type mode e x (length P) (length A)
  unfolding write_call
  write-unlent n p a = rw (p, a) (sym (unlent (length A) (length P ∷ []) _ _ n))

  pub write-told : (r : ℕ) → length A ≡ limit.area → WrittenBack (write_bytes t party name type mode e x (length P)) mode (length e / limit.event) (length x) (length P) r A' P'
      → back r A' (P' ∷ []) ≡ write_call t party name type mode e x (length P) (length A)
  unfolding write_call
  write-told r w h = rw (h.number, h.area, h.payload) (sym (lent-whole (length A) (length P ∷ []) _ _ w))

-- `bim_set_held`
module _ (t area area' : List ℕ) (party type mark : ℕ) where
  pub set-unlent : (length area ≡ limit.area → ⊥) → area' ≡ zeros (length area) → back refusal.area_size area' (t ∷ []) ≡ set_call t party type mark (length area)
  unfolding set_call
  set-unlent n e = rw (ne_eqb (length area) limit.area n) (ap (λ (x : List ℕ). back refusal.area_size x (t ∷ [])) e)

  pub set_told : length area ≡ limit.area → (s : Set) (t' : List ℕ) → SetByBytes t party type mark s t' → area' ≡ area_of (told (set_place s) 0 0 0 0 [])
      → back (set_number s) area' (t' ∷ []) ≡ set_call t party type mark (length area)
  unfolding set_call area_of
  set_told w s t' b a =
      let o = set_outcome t party type in
      rw (eq-eqb (length area) limit.area w)
      (ap (λ (x : ℕ). back x area' (t' ∷ [])) b.number
      ∙ ap (λ (x : List ℕ). back o.number x (t' ∷ [])) (a ∙ ap (λ (x : ℕ). area_of (told x 0 0 0 0 [])) b.place ∙ sym (ap area_of (tells t party type)))
      ∙ ap (λ (x : List ℕ). back o.number (area_of o) (x ∷ [])) b.table)

pub ruleset set-call-ways = (set-unlent, set_told)

-- `bim_report_add`
pub call-unlent : (t : List ℕ) (party name type : ℕ) (s B B' : List ℕ) → (length B ≡ report_bytes → ⊥) → B' ≡ zeros (length B) → reported area_size B' ≡ report_call t party name type s B
unfolding report_call
call-unlent t party name type s B B' n e = rw (ne_eqb (length B) report_bytes n) (ap (reported area_size) e)

pub call-added : (t : List ℕ) (party name type : ℕ) (s B B' : List ℕ) (r : ℕ) → length B ≡ report_bytes → AddedBy (read_for_report t party name type s) (length s) B r B' → reported r B' ≡ report_call t party name type s B
unfolding report_call
call-added t party name type s B B' r n a = rw (eq-eqb (length B) report_bytes n) (λ i. record { number = a.number i; report = a.report i })

pub ruleset report-call-ways = (call-unlent, call-added)
