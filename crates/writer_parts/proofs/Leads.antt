-- A loop of the walk: what is walked from here on, whatever it comes to, is what was to be walked from the start.
use Prim.Native.Nat.{ℕ}
use mathlib.Core.Path.{◌≡◌}
use mathlib.Core.List.{List, []}
use Rattle.model.specs.Write.{Bare, Out, wrote, along}
use Rattle.writer_parts.specs.declared.Spot.{Spot}
use Rattle.std.specs.Prelude.{Ok, Err}
use Rattle.numbers.specs.declared.refusal.Fault.{Fault}
use Rattle.writer_parts.specs.Walk.{Judgement, events_at, texts_at, Ready, Walked}
use Rattle.writer_parts.proofs.WalkLaws.{stays, along-stop, along-go, walked_as}

pub record Leads (L X : List ℕ) (o₀ : Out) (c₀ : Spot) (N₀ : List ℕ) (o : Out) (c : Spot) (N : List ℕ) : Type 0 where
  pub then : (s : Judgement) (K : List ℕ) → Walked L X o c N s K → Walked L X o₀ c₀ N₀ s K

pub leads-start : (L X : List ℕ) (o p : Out) (c : Spot) (N : List ℕ) → o ≡ p → Leads L X o c N p c N
leads-start L X o p c N e = record { then = λ s K h. walked_as s e h }

module _ (L X : List ℕ) (o₀ : Out) (c₀ : Spot) (N₀ : List ℕ) (o : Out) (c : Spot) (N : List ℕ) (l : Leads L X o₀ c₀ N₀ o c N) where
  pub leads-end : o ≡ wrote [] (events_at L c.event) (texts_at X c.used) → Ready L X N c → Walked L X o₀ c₀ N₀ (Ok c) N
  leads-end e r = l.then (Ok c) N (walked_as (Ok c) e (stays L X c N r))

  module _ (p : Out) (k : List Bare → List ℕ → Out) (e : o ≡ along p k) (r : Judgement) (M : List ℕ) (h : Walked L X p c N r M) where
    pub leads-stop : (f : Fault ℕ) → r ≡ Err f → Walked L X o₀ c₀ N₀ r M
    leads-stop f w = l.then r M (walked_as r e (along-stop L X p k c N r M h f w))

    pub leads-go : (f : Spot) → r ≡ Ok f → (q : Out) → k (events_at L f.event) (texts_at X f.used) ≡ q → Leads L X o₀ c₀ N₀ q f M
    leads-go f w q z = record { then = λ s K y. l.then s K (walked_as s e (along-go L X p k c N r M h f w s K (walked_as s z y))) }
