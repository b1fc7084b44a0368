-- THE WRITER'S NUMBER: a refusal's is from 1 on, so an answer with the number 0 is a payload that was made.
use Prim.Native.Nat.{ℕ, ◌+◌, ◌/◌, ◌%◌, ◌≤◌, min}
use mathlib.Core.Path.{◌≡◌, refl}
use mathlib.Core.Bool.{Bool, true, false, cond}
use mathlib.Core.List.{List, [], ◌∷◌}
use native.Mathlib.Omega.{arith}
use lib.Dec.{leb, eqb}
use lib.ListN.{length}
use Rattle.numbers.specs.Refusal.{write_mode}
use Rattle.wire.specs.Res.{Res, got, fault}
use Rattle.table.specs.First.{Verdict}
use Rattle.table.specs.First.Verdict.{right, wrong}
use Rattle.table.specs.Valid.{verdict}
use Rattle.table.specs.Rows.{table_of, held_of}
use Rattle.model.specs.Entries.{plan_of}
use Rattle.model.specs.Items.{Mode}
use Rattle.model.specs.Write as out
use Rattle.model.specs.Pack.{pack}
use Rattle.model.specs.Whole.{mode_byte, mode_number, modes_for, asked, Made, made, unmade, roomed, spent, mode_asked, shaped, events_from, written, or_unmade, verdict_made, writing, outcome_made}
use Rattle.model.proofs.Named.{Named}
use Rattle.theorems.proofs.WriteSound.{write-is}
use Rattle.theorems.proofs.NamedReading.{by-named, asked-named}
use Rattle.theorems.specs.NamedWriting.{Makes}

abbrev Spoken : Made → Type 0
Spoken (made s bits) = Unit
Spoken (unmade n p) = 1 ≤ n

spoken-cond : (t : Bool) (x y : Made) → Spoken x → Spoken y → Spoken (cond t x y)
spoken-cond true x y h k = h
spoken-cond false x y h k = k

spent-spoken : (n : ℕ) (o : out.Out) (k : List ℕ → Made) → ((e i : ℕ) → o ≡ out.refused e i → 1 ≤ e) → ((w : List ℕ) → Spoken (k w)) → Spoken (spent n o k)
unfolding spent
spent-spoken n (out.wrote w [] []) k h f = f w
spent-spoken n (out.wrote w [] (x ∷ U)) k h f = omega arith
spent-spoken n (out.wrote w (e ∷ M) U) k h f = go (eqb e.kind 7)
  where
    go : (t : Bool) → 1 ≤ cond t 19 18
    go true = omega arith
    go false = omega arith
spent-spoken n (out.refused e left) k h f = h e left refl

or-spoken : {A : Type 0} (m : Res A) (k : A → Made) → Named m → ((a : A) → Spoken (k a)) → Spoken (or_unmade m k)
unfolding or_unmade
or-spoken (got a) k h f = f a
or-spoken (fault n) k h f = h

verdict-spoken : (v : Verdict) (r : Made) → Spoken r → Spoken (verdict_made v r)
unfolding verdict_made
verdict-spoken right r h = h
verdict-spoken (wrong i) r h = omega arith

roomed-spoken : (room : ℕ) (mode : Mode) (w : List ℕ) → Spoken (roomed room mode w)
unfolding roomed
roomed-spoken room mode w = go (leb (1 + (length w + 7) / 8) (min room 8192))
  where
    go : (t : Bool) → Spoken (cond t (made (mode_byte mode ∷ pack w) (8 + length w)) (unmade 21 0))
    go true = tt
    go false = omega arith

shaped-spoken : (l : List ℕ) (m : Made) → Spoken m → Spoken (shaped l m)
unfolding shaped
shaped-spoken l m h =
    let bad = unmade 18 (length l / 4) in
    spoken-cond (eqb (length l % 4) 0) _ bad (spoken-cond (leb (length l / 4) 2048) m bad h (omega arith)) (omega arith)

mode-asked-named : (D n : ℕ) → Named (mode_asked D n)
unfolding mode_asked
mode-asked-named D n = by-named mode_number (modes_for D) n write_mode (omega arith)

pub writing-spoken : (l : List ℕ) (party name type mode : ℕ) (L X : List ℕ) (room : ℕ) → Spoken (writing l party name type mode L X room)
unfolding writing written
writing-spoken l party name type mode L X room =
    verdict-spoken (verdict l) _
    (or-spoken (asked (table_of l).types party name type) _ (asked-named (table_of l).types party name type)
    (λ u. or-spoken (mode_asked (table_of l).derivations mode) _ (mode-asked-named (table_of l).derivations mode)
    (λ m. shaped-spoken L _ (spent-spoken _ _ _ (write-is m.lengths (held_of l party) (plan_of l name type m.casting) (events_from L 0 (length L / 4)) X).numbered (roomed-spoken room m)))))

-- 0 is a payload
pub zero-makes : (l : List ℕ) (party name type mode : ℕ) (L X : List ℕ) (room events octets : ℕ) → (outcome_made mode events octets (writing l party name type mode L X room)).number ≡ 0 → Makes (writing l party name type mode L X room)
unfolding outcome_made
zero-makes l party name type mode L X room events octets e = go (writing l party name type mode L X room) refl (writing-spoken l party name type mode L X room) e
  where
    go : (m : Made) → writing l party name type mode L X room ≡ m → Spoken m → (outcome_made mode events octets m).number ≡ 0 → Makes (writing l party name type mode L X room)
    go (made s bits) x h z = record { payload = s; bits = bits; is = x }
    go (unmade n p) x h z = absurd (omega arith)
