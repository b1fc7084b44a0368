-- The particle rows. What each is stands in src/particle.rt.
use Rattle.std.specs.Prelude.{ℕ, zero, suc}

abbrev pub element : ℕ
element = 0

abbrev pub sequence : ℕ
sequence = 1

abbrev pub choice : ℕ
choice = 2

abbrev pub occurs : ℕ
occurs = 3

-- what is so of each, and so of a number; one that is none of them is taken as the last, or has its own
pub record Particles (A : Type 0) : Type 0 where
  pub element : A
  pub sequence : A
  pub choice : A
  pub occurs : A

abbrev pub of_particle : {A : Type 0} → Particles A → ℕ → A
of_particle c zero = c.element
of_particle c (suc zero) = c.sequence
of_particle c (suc (suc zero)) = c.choice
of_particle c (suc (suc (suc k))) = c.occurs

abbrev pub of_particle_or : {A : Type 0} → A → Particles A → ℕ → A
of_particle_or none c zero = c.element
of_particle_or none c (suc zero) = c.sequence
of_particle_or none c (suc (suc zero)) = c.choice
of_particle_or none c (suc (suc (suc zero))) = c.occurs
of_particle_or none c (suc (suc (suc (suc k)))) = none
