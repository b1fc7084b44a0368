-- What a type's elements contain. What each is stands in src/content.rt.
use Rattle.std.specs.Prelude.{ℕ, zero, suc}

abbrev pub empty : ℕ
empty = 0

abbrev pub simple : ℕ
simple = 1

abbrev pub particles : ℕ
particles = 2

-- what is so of each, and so of a number; one that is none of them is taken as the last
pub record Contents (A : Type 0) : Type 0 where
  pub empty : A
  pub simple : A
  pub particles : A

abbrev pub of_content : {A : Type 0} → Contents A → ℕ → A
of_content c zero = c.empty
of_content c (suc zero) = c.simple
of_content c (suc (suc k)) = c.particles
