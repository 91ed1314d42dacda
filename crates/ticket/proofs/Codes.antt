-- A record can be told from its bytes.
use Rattle.std.proofs.Common.{◌≡◌, ℕ, zero, suc, ◌^◌, ◌<◌, false, ◌⊎◌, List, [], ◌∷◌, ◌++◌, length, get_or, take, drop, sym, refl, ap, ◌∙◌, ap₂, inl, inr, append_assoc, append-nil, suc-le-suc, zero-le, not-suc-le-zero, arith, length-append, length-drop, take-append-drop, length-take-le, take_all, take_at, drop_at}
use Rattle.std.specs.List.{All}
use Rattle.std.specs.Int.Digits.{AllBelowBase, number_from_digits}
use Rattle.std.proofs.lemmas.List.Elements.{All-head, All-tail}
use Rattle.std.proofs.lemmas.Bool.{ltb-false, eqb-false}
use Rattle.cursor.specs.declared.stride.Stride.{Stride}
use Rattle.cursor.proofs.NonZero.{stride, same_stride}
use Rattle.ticket.specs.declared.record.Record.{Record}
use Rattle.ticket.specs.declared.record.Record.TheVariants.{Head, Tint, Purge, Resume, Limit, Every, First, End}
use Rattle.ticket.specs.declared.kinds.TheConstants.{BODIES}
use Rattle.ticket.specs.Kinds.{body_in}
use Rattle.ticket.specs.Records.{big, kind, body, written, Fits, Unambiguous}
use Rattle.ticket.specs.Lists.{Allowed}
use Rattle.ticket.specs.Refusals.{high, still}
use Rattle.ticket.specs.Reading.{stride_in, record_of}
use Rattle.ticket.proofs.Bytes.{under_take, under_drop, big_length, big_number, number_big}

-- the table that the code has
abbrev pub bodies : List ℕ
bodies = BODIES

pub data Known : ℕ → Type 0 where
  k1 : Known 1
  k2 : Known 2
  k3 : Known 3
  k4 : Known 4
  k5 : Known 5
  k6 : Known 6
  k7 : Known 7
  k15 : Known 15

pub known : (k : ℕ) → 0 < body_in bodies k → Known k
known (suc zero) b = k1
known (suc (suc zero)) b = k2
known (suc (suc (suc zero))) b = k3
known (suc (suc (suc (suc zero)))) b = k4
known (suc (suc (suc (suc (suc zero))))) b = k5
known (suc (suc (suc (suc (suc (suc zero)))))) b = k6
known (suc (suc (suc (suc (suc (suc (suc zero))))))) b = k7
known (suc (suc (suc (suc (suc (suc (suc (suc (suc (suc (suc (suc (suc (suc (suc zero))))))))))))))) b = k15
known _ b = absurd (not-suc-le-zero b)

pub body_length : (r : Record) → length (body r) ≡ body_in bodies (kind r)
body_length (Head c n) = omega (arith, length-append (big 4 c) (big 2 n), big_length 4 c, big_length 2 n)
body_length (Tint x) = omega (arith, big_length 2 x.volume)
body_length (Purge x) = omega (arith, big_length 2 x.volume)
body_length (Resume n) = big_length 8 n
body_length (Limit n) = big_length 8 n
body_length (Every s) = big_length 8 s.steps
body_length (First n) = refl
body_length (End n) = big_length 2 n

pub body_some : (r : Record) → (0 < body_in bodies (kind r)) × (kind r < 16)
body_some (Head c n) = omega arith
body_some _ = omega arith

pub end_of : (r : Record) → kind r ≡ 15 → (n : ℕ) × (r ≡ End n)
end_of (End n) e = (n, refl)
end_of _ e = absurd (omega arith)

-- the numbers in two bytes, in four bytes before two, and the stride of a number above 0
two : (n : ℕ) → n < 2 ^ 16 → number_from_digits 256 (take 2 (big 2 n)) ≡ n
two n h = ap (number_from_digits 256) (take_all 2 (big 2 n) (omega (arith, big_length 2 n))) ∙ number_big 2 n h

stride_made : (n : ℕ) (h : 0 < n) → stride_in n ≡ stride n h
stride_made zero h = absurd (not-suc-le-zero h)
stride_made (suc n) h = same_stride (suc n) (suc-le-suc zero-le) h

steps_in : (n : ℕ) → (n ≡ 0 → ⊥) → (stride_in n).steps ≡ n
steps_in zero h = absurd (h refl)
steps_in (suc n) h = refl

-- a record is the one of its kind and body
pub decode : (r : Record) → Fits r → record_of (kind r) (body r) ≡ r
decode (Head c n) h =
    ap₂ (λ (a b : ℕ). Head a b)
    (ap (number_from_digits 256) (take_at (big 4 c) (big 2 n) 4 (big_length 4 c)) ∙ number_big 4 c h.0)
    (ap (λ (xs : List ℕ). number_from_digits 256 (take 2 xs)) (drop_at (big 4 c) (big 2 n) 4 (big_length 4 c)) ∙ two n h.1)
decode (Tint x) h = ap (λ (v : ℕ). Tint (record { valve = x.valve; volume = v })) (two x.volume h.1)
decode (Purge x) h = ap (λ (v : ℕ). Purge (record { valve = x.valve; volume = v })) (two x.volume h.1)
decode (Resume n) h = ap (λ (v : ℕ). Resume v) (number_big 8 n h)
decode (Limit n) h = ap (λ (v : ℕ). Limit v) (number_big 8 n h)
decode (Every s) h = ap (λ (n : ℕ). Every (stride_in n)) (number_big 8 s.steps h) ∙ ap (λ (v : Stride). Every v) (stride_made s.steps s.some)
decode (First n) h = refl
decode (End n) h = ap (λ (v : ℕ). End v) (number_big 2 n h)

-- a stroke's two bytes behind its valve
tail : (x : ℕ) (xs : List ℕ) → length xs ≡ 2 → AllBelowBase 256 (x ∷ xs) → (number_from_digits 256 (take 2 xs) < 256 ^ 2) × (x ∷ big 2 (number_from_digits 256 (take 2 xs)) ≡ x ∷ xs)
tail x xs l u =
    let b = big_number xs 2 l u.1 in
    let e : take 2 xs ≡ xs = take_all 2 xs (omega arith) in
    (rw e b.0, ap (λ (ys : List ℕ). x ∷ ys) (ap (λ (ys : List ℕ). big 2 (number_from_digits 256 ys)) e ∙ b.1))

pub record Coded (k : ℕ) (xs : List ℕ) (r : Record) : Type 0 where
  pub kind_is : kind r ≡ k
  pub body_is : body r ≡ xs
  pub fits : Fits r
  pub allowed : Allowed r

-- bytes without a fault are the writing of the record that is read off them
pub encode : (k : ℕ) → Known k → (xs : List ℕ) → length xs ≡ body_in bodies k → AllBelowBase 256 xs → high k xs ≡ false → still k xs ≡ false → Coded k xs (record_of k xs)
encode k k1 xs l u h s =
    let a = big_number (take 4 xs) 4 (length-take-le 4 xs (omega arith)) (under_take 4 xs u) in
    let e : take 2 (drop 4 xs) ≡ drop 4 xs = take_all 2 (drop 4 xs) (omega (arith, length-drop 4 xs)) in
    let b = big_number (drop 4 xs) 2 (omega (arith, length-drop 4 xs)) (under_drop 4 xs u) in
    record {
      kind_is = refl;
      body_is = ap₂ (λ (p q : List ℕ). p ++ q) a.1 (ap (λ (ys : List ℕ). big 2 (number_from_digits 256 ys)) e ∙ b.1) ∙ take-append-drop 4 xs;
      fits = (a.0, rw e b.0);
      allowed = tt;
    }
encode k k2 [] l u h s = absurd (omega arith)
encode k k2 (x ∷ xs) l u h s = let t = tail x xs (omega arith) u in record { kind_is = refl; body_is = t.1; fits = (u.0, t.0); allowed = ltb-false 15 x h }
encode k k3 [] l u h s = absurd (omega arith)
encode k k3 (x ∷ xs) l u h s = let t = tail x xs (omega arith) u in record { kind_is = refl; body_is = t.1; fits = (u.0, t.0); allowed = ltb-false 15 x h }
encode k k4 xs l u h s = let b = big_number xs 8 l u in record { kind_is = refl; body_is = b.1; fits = b.0; allowed = tt }
encode k k5 xs l u h s = let b = big_number xs 8 l u in record { kind_is = refl; body_is = b.1; fits = b.0; allowed = tt }
encode k k6 xs l u h s =
    let b = big_number xs 8 l u in
    let e = steps_in (number_from_digits 256 xs) (eqb-false (number_from_digits 256 xs) 0 s) in
    record { kind_is = refl; body_is = ap (big 8) e ∙ b.1; fits = rw e b.0; allowed = tt }
encode k k7 [] l u h s = absurd (omega arith)
encode k k7 (x ∷ []) l u h s = record { kind_is = refl; body_is = refl; fits = u.0; allowed = ltb-false 15 x h }
encode k k7 (x ∷ y ∷ xs) l u h s = absurd (omega arith)
encode k k15 xs l u h s = let b = big_number xs 2 l u in record { kind_is = refl; body_is = b.1; fits = b.0; allowed = tt }

same_front : (p q x y : List ℕ) → length p ≡ length q → p ++ x ≡ q ++ y → (p ≡ q) × (x ≡ y)
same_front p q x y l e = (
  sym (take_at p x (length p) refl) ∙ (ap (take (length p)) e ∙ take_at q y (length p) (sym l)),
  sym (drop_at p x (length p) refl) ∙ (ap (drop (length p)) e ∙ drop_at q y (length p) (sym l)),
)

-- bytes that begin with a record begin with no other
pub first_record : (r s : Record) (ys zs : List ℕ) → Fits r → Fits s → kind r ∷ (body r ++ ys) ≡ kind s ∷ (body s ++ zs) → (r ≡ s) × (ys ≡ zs)
first_record r s ys zs f g e =
    let k : kind r ≡ kind s = ap (λ (xs : List ℕ). get_or xs 0 0) e in
    let l : length (body r) ≡ length (body s) = body_length r ∙ (ap (body_in bodies) k ∙ sym (body_length s)) in
    let b = same_front (body r) (body s) ys zs l (ap (drop 1) e) in
    (sym (decode r f) ∙ (ap₂ record_of k b.0 ∙ decode s g), b.1)

-- ss has one record more than rs, at least, and is else the same; ys and zs are what is left behind them
pub record Longer (rs ss : List Record) (ys zs : List ℕ) : Type 0 where
  pub next : Record
  pub rest : List Record
  pub list : ss ≡ rs ++ (next ∷ rest)
  pub left : ys ≡ kind next ∷ (body next ++ (written rest ++ zs))

-- two lists of records that the same bytes begin with are the same, or one goes on where the other stops
pub fork : (rs ss : List Record) (ys zs : List ℕ) → All Fits rs → All Fits ss → written rs ++ ys ≡ written ss ++ zs
    → ((rs ≡ ss) × (ys ≡ zs)) ⊎ (Longer rs ss ys zs ⊎ Longer ss rs zs ys)
fork [] [] ys zs f g e = inl (refl, e)
fork [] (s ∷ ss) ys zs f g e = inr (inl (record { next = s; rest = ss; list = refl; left = e ∙ ap (λ (xs : List ℕ). kind s ∷ xs) (append_assoc (body s) (written ss) zs) }))
fork (r ∷ rs) [] ys zs f g e = inr (inr (record { next = r; rest = rs; list = refl; left = sym e ∙ ap (λ (xs : List ℕ). kind r ∷ xs) (append_assoc (body r) (written rs) ys) }))
fork (r ∷ rs) (s ∷ ss) ys zs f g e =
    let b = first_record r s (written rs ++ ys) (written ss ++ zs) (All-head Fits r rs f) (All-head Fits s ss g)
    (sym (ap (λ (xs : List ℕ). kind r ∷ xs) (append_assoc (body r) (written rs) ys)) ∙ (e ∙ ap (λ (xs : List ℕ). kind s ∷ xs) (append_assoc (body s) (written ss) zs))) in
    elim (fork rs ss ys zs (All-tail Fits r rs f) (All-tail Fits s ss g) b.1) [
      | inl q ↦ inl (ap₂ ◌∷◌ b.0 q.0, q.1)
      | inr (inl q) ↦ inr (inl (record { next = q.next; rest = q.rest; list = ap₂ ◌∷◌ (sym b.0) q.list; left = q.left }))
      | inr (inr q) ↦ inr (inr (record { next = q.next; rest = q.rest; list = ap₂ ◌∷◌ b.0 q.list; left = q.left }))
    ]

pub unique : Unambiguous
unique rs ss f g e =
    elim (fork rs ss [] [] f g (append-nil (written rs) ∙ (e ∙ sym (append-nil (written ss))))) [
      | inl q ↦ q.0
      | inr (inl q) ↦ absurd (omega (arith, ap length q.left))
      | inr (inr q) ↦ absurd (omega (arith, ap length q.left))
    ]
