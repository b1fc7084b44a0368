-- The simple kinds. What each is stands in src/simple.rt.
use Rattle.std.specs.Prelude.{ℕ, zero, suc}

abbrev pub boolean : ℕ
boolean = 0

abbrev pub ranged : ℕ
ranged = 1

abbrev pub unsigned : ℕ
unsigned = 2

abbrev pub signed : ℕ
signed = 3

abbrev pub enumeration : ℕ
enumeration = 4

abbrev pub text : ℕ
text = 5

abbrev pub float : ℕ
float = 6

abbrev pub date_time : ℕ
date_time = 7

abbrev pub date : ℕ
date = 8

-- what is so of each, and so of a number; one that is none of them has its own
pub record Simples (A : Type 0) : Type 0 where
  pub boolean : A
  pub ranged : A
  pub unsigned : A
  pub signed : A
  pub enumeration : A
  pub text : A
  pub float : A
  pub date_time : A
  pub date : A

abbrev pub of_simple_or : {A : Type 0} → A → Simples A → ℕ → A
of_simple_or none c zero = c.boolean
of_simple_or none c (suc zero) = c.ranged
of_simple_or none c (suc (suc zero)) = c.unsigned
of_simple_or none c (suc (suc (suc zero))) = c.signed
of_simple_or none c (suc (suc (suc (suc zero)))) = c.enumeration
of_simple_or none c (suc (suc (suc (suc (suc zero))))) = c.text
of_simple_or none c (suc (suc (suc (suc (suc (suc zero)))))) = c.float
of_simple_or none c (suc (suc (suc (suc (suc (suc (suc zero))))))) = c.date_time
of_simple_or none c (suc (suc (suc (suc (suc (suc (suc (suc zero)))))))) = c.date
of_simple_or none c (suc (suc (suc (suc (suc (suc (suc (suc (suc k))))))))) = none
