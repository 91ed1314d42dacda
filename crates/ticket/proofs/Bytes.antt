-- Numbers in bytes, the most significant first.
use Rattle.std.proofs.Common.{◌≡◌, ℕ, zero, suc, ◌+◌, ◌*◌, ◌/◌, ◌%◌, ◌^◌, ◌<◌, List, [], ◌∷◌, ◌++◌, length, get_or, take, drop, sym, refl, ap, ◌∙◌, ap₂, pow-suc, arith, length-append, take_all, w8, Fits as FitsWidth}
use native.Mathlib.Nat.{pow-zero}
use Rattle.std.specs.Int.Digits.{number_from_digits, number_from_digits_after, AllBelowBase}
use Rattle.std.proofs.lemmas.Int.Digits.{number_push, number_more, number_lt}
use Rattle.std.proofs.lemmas.List.Elements.{All-from_recursion, recursion_from_All, All-push, All-take, All-drop, All-from_get_or}
use Rattle.ticket.specs.Records.{big}

abbrev Byte : ℕ → Type 0
Byte d = d < 256

-- a slice of bytes holds bytes
pub bytes_under : (bs : List ℕ) → ((i : ℕ) → FitsWidth w8 (get_or bs i 0)) → AllBelowBase 256 bs
bytes_under bs f = recursion_from_All Byte bs (All-from_get_or Byte bs 0 (λ i h. omega (arith, (f i).fits)))

-- and so does each part of it
pub under_take : (n : ℕ) (bs : List ℕ) → AllBelowBase 256 bs → AllBelowBase 256 (take n bs)
under_take n bs u = recursion_from_All Byte (take n bs) (All-take Byte n bs (All-from_recursion Byte bs u))

pub under_drop : (n : ℕ) (bs : List ℕ) → AllBelowBase 256 bs → AllBelowBase 256 (drop n bs)
under_drop n bs u = recursion_from_All Byte (drop n bs) (All-drop Byte n bs (All-from_recursion Byte bs u))

-- the sums that the machine's numbers are made by
module _ (xs : List ℕ) where
  abbrev x : ℕ → ℕ
  x i = get_or xs i 0

  more : (i : ℕ) → i < length xs → number_from_digits 256 (take (i + 1) xs) ≡ number_from_digits 256 (take i xs) * 256 + x i
  more i h = number_more 256 xs i h

  pub number_in_2 : length xs ≡ 2 → x 0 * 256 + x 1 ≡ number_from_digits 256 xs
  number_in_2 h = omega (arith, more 0 (omega arith), more 1 (omega arith), ap (number_from_digits 256) (take_all 2 xs (omega arith)))

  pub number_in_4 : length xs ≡ 4 → x 0 * 16777216 + x 1 * 65536 + x 2 * 256 + x 3 ≡ number_from_digits 256 xs
  number_in_4 h =
      omega (arith, more 0 (omega arith), more 1 (omega arith), more 2 (omega arith), more 3 (omega arith), ap (number_from_digits 256) (take_all 4 xs (omega arith)))

  pub number_in_8 : length xs ≡ 8
      → x 0 * 72057594037927936 + x 1 * 281474976710656 + x 2 * 1099511627776 + x 3 * 4294967296 + x 4 * 16777216 + x 5 * 65536 + x 6 * 256 + x 7 ≡ number_from_digits 256 xs
  number_in_8 h =
      omega (
        arith,
        more 0 (omega arith),
        more 1 (omega arith),
        more 2 (omega arith),
        more 3 (omega arith),
        more 4 (omega arith),
        more 5 (omega arith),
        more 6 (omega arith),
        more 7 (omega arith),
        ap (number_from_digits 256) (take_all 8 xs (omega arith)),
      )

pub big_length : (w n : ℕ) → length (big w n) ≡ w
unfolding big
big_length zero n = refl
big_length (suc w) n = omega (arith, length-append (big w (n / 256)) (n % 256 ∷ []), big_length w (n / 256))

big_under : (w n : ℕ) → AllBelowBase 256 (big w n)
unfolding big
big_under zero n = tt
big_under (suc w) n =
    let u = All-from_recursion Byte (big w (n / 256)) (big_under w (n / 256)) in
    recursion_from_All Byte (big w (n / 256) ++ (n % 256 ∷ [])) (All-push Byte (big w (n / 256)) (n % 256) u (omega arith))

less : (n p : ℕ) → n < p * 256 → n / 256 < p
less n p h = omega arith

-- a number that fits its bytes can be read off them
pub number_big : (w n : ℕ) → n < 256 ^ w → number_from_digits 256 (big w n) ≡ n
unfolding big
number_big zero n h = omega (arith, pow-zero 256)
number_big (suc w) n h =
    let l : n < 256 ^ w * 256 = rw pow-suc at h in
    let g : number_from_digits 256 (big w (n / 256)) ≡ n / 256 = number_big w (n / 256) (less n (256 ^ w) l) in
    number_push 256 (big w (n / 256)) (n % 256) ∙ (ap (λ (m : ℕ). m * 256 + n % 256) g ∙ omega arith)

same : (xs ys : List ℕ) (a b : ℕ) → length xs ≡ length ys → AllBelowBase 256 xs → AllBelowBase 256 ys → number_from_digits_after 256 a xs ≡ number_from_digits_after 256 b ys → (a ≡ b) × (xs ≡ ys)
same [] [] a b l u v e = (e, refl)
same [] (y ∷ ys) a b l u v e = absurd (omega arith)
same (x ∷ xs) [] a b l u v e = absurd (omega arith)
same (x ∷ xs) (y ∷ ys) a b l u v e =
    let g = same xs ys (a * 256 + x) (b * 256 + y) (omega arith) u.1 v.1 e in
    let p : x ≡ y = omega (arith, g.0, u.0, v.0) in
    (omega (arith, g.0, u.0, v.0), ap₂ ◌∷◌ p g.1)

-- and bytes are the writing of their number
pub big_number : (xs : List ℕ) (w : ℕ) → length xs ≡ w → AllBelowBase 256 xs → (number_from_digits 256 xs < 256 ^ w) × (big w (number_from_digits 256 xs) ≡ xs)
big_number xs w l u =
    let h : number_from_digits 256 xs < 256 ^ w = rw (← l) (number_lt 256 xs u) in
    (h, (same (big w (number_from_digits 256 xs)) xs 0 0 (big_length w (number_from_digits 256 xs) ∙ sym l) (big_under w (number_from_digits 256 xs)) u (number_big w (number_from_digits 256 xs) h)).1)
