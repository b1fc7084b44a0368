-- A calendar day in the year that is counted from March: the days of it that have passed, from which the formulas find month and day again.
use Prim.Native.Nat.{ℕ, zero, suc, ◌+◌, ◌-◌, ◌*◌, ◌/◌, ◌%◌, ◌<◌, ◌≤◌}
use mathlib.Core.Path.{◌≡◌, refl}
use mathlib.Core.Bool.{Bool, true, false, cond}
use native.Mathlib.Numerals.{add-one}
use native.Mathlib.Omega.{arith}
use Rattle.calendar.specs.Plain.{date, leap, days_in}
use Rattle.calendar.specs.Formulas.{year_start, month_start, from_march, monthly, days_to}
use Rattle.calendar.proofs.Years.{february}

pub record Marched (y m d : ℕ) : Type 0 where
  pub year : ℕ
  pub passed : ℕ
  pub to : days_to y m d ≡ year_start year + passed
  pub back : monthly year (5 * passed + 2) ≡ date y m d
  pub short : passed < 337 + february (year + 1)

divided-month : (n e : ℕ) → e < 153 → ((153 * n + e) / 153 ≡ n) × ((153 * n + e) % 153 ≡ e)
divided-month n e h = (omega arith, omega arith)

-- month M from March, before which start days lie, has its days from start on
in-month : (year M start c d : ℕ) → 5 * start + 2 ≡ 153 * M + c → c ≤ 4 → 1 ≤ d → 5 * (d - 1) + c < 153
    → monthly year (5 * (start + (d - 1)) + 2) ≡ from_march year M d
unfolding monthly
in-month year M start c d e h k l =
    let s : 5 * (start + (d - 1)) + 2 ≡ 153 * M + (5 * (d - 1) + c) = omega arith in
    let q = divided-month M (5 * (d - 1) + c) l in
    let z : (5 * (d - 1) + c) / 5 + 1 ≡ d = omega arith in
    rw (s, q.0, q.1, z)

pub february-some : (y : ℕ) → 28 ≤ february y
february-some y = go (leap y)
  where
    go : (t : Bool) → 28 ≤ cond t 29 28
    go true = omega arith
    go false = omega arith

pub february-most : (y : ℕ) → february y ≤ 29
february-most y = go (leap y)
  where
    go : (t : Bool) → cond t 29 28 ≤ 29
    go true = omega arith
    go false = omega arith

-- March to December
late : (y k d start c : ℕ) → month_start k ≡ start → days_to y (k + 3) d ≡ year_start y + month_start k + (d - 1) → from_march y k d ≡ date y (k + 3) d
    → 5 * start + 2 ≡ 153 * k + c → c ≤ 4 → 1 ≤ d → 5 * (d - 1) + c < 153 → start + (d - 1) < 365 → Marched y (k + 3) d
late y k d start c s t u e f h g l = record {
  year = y;
  passed = start + (d - 1);
  to = rw (t, s) (omega arith);
  back = rw (in-month y k start c d e f h g) u;
  short = omega (arith, february-some (y + 1));
}

-- January and February, of the year that began in March before
early : (y k d start c : ℕ) → month_start (k + 9) ≡ start → days_to (suc y) k d ≡ year_start (suc y - 1) + month_start (k + 9) + (d - 1)
    → from_march y (k + 9) d ≡ date (y + 1) k d
    → 5 * start + 2 ≡ 153 * (k + 9) + c → c ≤ 4 → 1 ≤ d → 5 * (d - 1) + c < 153 → start + (d - 1) < 337 + february (y + 1) → Marched (suc y) k d
early y k d start c s t u e f h g l = record {
  year = y;
  passed = start + (d - 1);
  to = let z : suc y - 1 ≡ y = omega arith in rw (t, s, z) (omega arith);
  back = rw (in-month y (k + 9) start c d e f h g) (rw add-one at u);
  short = l;
}

pub marched : (y m d : ℕ) → 1 ≤ y → 1 ≤ d → d ≤ days_in y m → Marched y m d
unfolding days_in month_start days_to from_march
marched zero m d p h k = absurd (omega arith)
marched (suc y) zero d p h k = absurd (omega arith)
marched (suc y) (suc zero) d p h k = early y 1 d 306 2 refl refl refl refl (omega arith) h (omega arith) (omega (arith, february-some (y + 1)))
marched (suc y) (suc (suc zero)) d p h k =
    let m = february-most (suc y) in
    early y 2 d 337 4 refl refl refl refl (omega arith) h (omega arith) (rw add-one (omega arith))
marched (suc y) (suc (suc (suc zero))) d p h k = late (suc y) 0 d 0 2 refl refl refl refl (omega arith) h (omega arith) (omega arith)
marched (suc y) (suc (suc (suc (suc zero)))) d p h k = late (suc y) 1 d 31 4 refl refl refl refl (omega arith) h (omega arith) (omega arith)
marched (suc y) (suc (suc (suc (suc (suc zero))))) d p h k = late (suc y) 2 d 61 1 refl refl refl refl (omega arith) h (omega arith) (omega arith)
marched (suc y) (suc (suc (suc (suc (suc (suc zero)))))) d p h k = late (suc y) 3 d 92 3 refl refl refl refl (omega arith) h (omega arith) (omega arith)
marched (suc y) (suc (suc (suc (suc (suc (suc (suc zero))))))) d p h k = late (suc y) 4 d 122 0 refl refl refl refl (omega arith) h (omega arith) (omega arith)
marched (suc y) (suc (suc (suc (suc (suc (suc (suc (suc zero)))))))) d p h k = late (suc y) 5 d 153 2 refl refl refl refl (omega arith) h (omega arith) (omega arith)
marched (suc y) (suc (suc (suc (suc (suc (suc (suc (suc (suc zero))))))))) d p h k = late (suc y) 6 d 184 4 refl refl refl refl (omega arith) h (omega arith) (omega arith)
marched (suc y) (suc (suc (suc (suc (suc (suc (suc (suc (suc (suc zero)))))))))) d p h k = late (suc y) 7 d 214 1 refl refl refl refl (omega arith) h (omega arith) (omega arith)
marched (suc y) (suc (suc (suc (suc (suc (suc (suc (suc (suc (suc (suc zero))))))))))) d p h k = late (suc y) 8 d 245 3 refl refl refl refl (omega arith) h (omega arith) (omega arith)
marched (suc y) (suc (suc (suc (suc (suc (suc (suc (suc (suc (suc (suc (suc zero)))))))))))) d p h k = late (suc y) 9 d 275 0 refl refl refl refl (omega arith) h (omega arith) (omega arith)
marched (suc y) (suc (suc (suc (suc (suc (suc (suc (suc (suc (suc (suc (suc (suc m))))))))))))) d p h k = absurd (omega arith)
