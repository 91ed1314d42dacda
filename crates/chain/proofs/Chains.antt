-- Chain's rows.
use Rattle.std.proofs.Common.{◌≡◌, ℕ, zero, suc, ◌+◌, ◌-◌, ◌^◌, ◌<◌, ◌≤◌, min, false, ◌⊎◌, is_some, Some, None, Option, sym, refl, ap, ◌∙◌, ap₂, ⊎_elim, arith}
use mathlib.Core.Path.{fun_ext}
use Rattle.std.proofs.lemmas.Bool.{cases_lt}
use Rattle.std.proofs.lemmas.Bool.Decides.{nat_tests}
use Rattle.cursor.specs.Rows.{Row, Closed, Length, after, first, one, taken, size, back, back_at, join, join_at}
use Rattle.cursor.specs.Calls.{Spent, Free}
use Rattle.cursor.specs.Closing.{first_out, closed_after, size_inside, taken_le}
use Rattle.cursor.proofs.Laws.{after_end, after_zero, length_closed, taken_first, back_out, one_some, taken_after, taken_nil, size_after, size_first, size_length, size_tells, length_short}

-- at each place that the largest count reaches: m places of a joined row are taken from the first part, as far as it goes,
-- and the others from the second
join_after : {A : Type 0} (r t : Row A) → Closed r → (m k : ℕ) → m + k < 2 ^ 64 - 1 → join (after m r) (after (m - size r) t) k ≡ join r t (m + k)
unfolding after join_at
join_after r t c m k b =
    ⊎_elim
    (λ s. let x = size_inside r c (m + k) s in
    ⊎_elim (λ u. grind (arith, nat_tests)) (λ u. let y = size_tells (after m r) (closed_after m r c) k u (omega arith) in grind (arith, nat_tests, x, y)) (cases_lt k (size (after m r))))
    (λ s. let l = length_short r c (omega arith) in let z = size_after m r l in grind (arith, nat_tests))
    (cases_lt (m + k) (size r))

-- the front
pub chain_front : {A : Type 0} (left left' m : ℕ) (r t r' t' : Row A) → Closed r → left < 2 ^ 64 → left' ≡ left - m → r' ≡ after m r → t' ≡ after (m - size r) t →
    first left' (join r' t') ≡ after m (first left (join r t))
unfolding after first
chain_front left left' m r t r' t' c f e er et =
    ap (λ x. first left' (join x t')) er ∙ ap (λ x. first left' (join (after m r) x)) et
    ∙ fun_ext (λ k. ⊎_elim (λ b. let j = join_after r t c m k (omega arith) in grind (arith, nat_tests, j)) (λ b. grind (arith, nat_tests)) (cases_lt (m + k) left))

-- items from the front
module _ {A : Type 0} (left : ℕ) (r t : Row A) (c : Closed r) (f : left < 2 ^ 64) where
  pub chain_gone : (n : ℕ) → left ≤ n → None ≡ first left (join r t) n
  chain_gone n b = sym (first_out left (join r t) n b)

  -- an item of the first part, and one of the second
  pub chain_here : (n : ℕ) (o : Option A) → n < left → n < size r → o ≡ r n → o ≡ first left (join r t) n
  unfolding first join_at
  chain_here n o b s e = grind (arith, nat_tests)

  pub chain_there : (n i : ℕ) (o : Option A) → n < left → size r ≤ n → i ≡ n - size r → o ≡ t i → o ≡ first left (join r t) n
  unfolding first join_at
  chain_there n i o b s j e = grind (arith, nat_tests)

-- `next`, where the first part has an item and where it has none
module _ {A : Type 0} (left left' : ℕ) (r t r' : Row A) (c : Closed r) (f : left < 2 ^ 64) (p : 0 < left) (el : left' ≡ left - 1) (er : r' ≡ after 1 r) where
  pub next_here : (x : A) → Some x ≡ r 0 → (Some x ≡ first left (join r t) 0) × (first left' (join r' t) ≡ after 1 (first left (join r t)))
  next_here x e =
      let s : 0 < size r = ⊎_elim (λ b. b) (λ b. let z = size_tells r c 0 b (omega arith) in absurd (let y : ◌≡◌ {A = ℕ} 0 1 = cc in omega arith)) (cases_lt 0 (size r)) in
      (chain_here left r t c f 0 (Some x) p s e, chain_front left left' 1 r t r' t c f el er (sym (after_zero (1 - size r) t (omega arith))))

  pub next_there : (o : Option A) (t' : Row A) → None ≡ r 0 → o ≡ t 0 → t' ≡ after 1 t → (o ≡ first left (join r t) 0) × (first left' (join r' t') ≡ after 1 (first left (join r t)))
  next_there o t' e i et =
      let s : size r ≡ 0 = ⊎_elim (λ b. let z = size_inside r c 0 b in absurd (let w : is_some (r 0) ≡ false = sym (ap is_some e) in let y : ◌≡◌ {A = ℕ} 0 1 = cc in omega arith)) (λ b. omega arith) (cases_lt 0 (size r)) in
      let z : 1 ≡ 1 - size r = omega arith in
      (chain_there left r t c f 0 0 o p (omega arith) (omega arith) i, chain_front left left' 1 r t r' t' c f el er (et ∙ ap (λ (k : ℕ). after k t) z))

module _ {A : Type 0} (r t : Row A) (h : Length r (size r)) where
  -- m of the n places asked for are shown: within the first part, and past it
  pub chain_ahead : (left left' n m : ℕ) (r' : Row A) → left < 2 ^ 64 → m ≡ min n left → left' ≡ left - m → m ≤ size r → r' ≡ after m r →
      first left' (join r' t) ≡ after n (first left (join r t))
  unfolding after first
  chain_ahead left left' n m r' f em el b e =
      chain_front left left' m r t r' t (length_closed (size r) r h) f el e (sym (after_zero (m - size r) t (omega arith)))
      ∙ fun_ext (λ k. grind (arith, nat_tests))

  pub chain_past : (left left' n m l x : ℕ) (r' t' : Row A) → left < 2 ^ 64 → m ≡ min n left → left' ≡ left - m → size r ≤ m → l ≡ size r → x ≡ m - l →
      r' ≡ after l r → t' ≡ after x t → first left' (join r' t') ≡ after n (first left (join r t))
  unfolding after first
  chain_past left left' n m l x r' t' f em el b d y e i =
      let z : x ≡ m - size r = omega arith in
      chain_front left left' m r t r' t' (length_closed (size r) r h) f el (e ∙ (after_end l (size r) r h (omega arith) ∙ sym (after_end m (size r) r h b))) (i ∙ ap (λ (k : ℕ). after k t) z)
      ∙ fun_ext (λ k. grind (arith, nat_tests))

  taken_front : (m : ℕ) → m ≤ size r → taken (join r t) m ≡ m
  unfolding taken join_at
  taken_front zero b = refl
  taken_front (suc m) b =
      let i = taken_front m (omega arith) in
      let o : one (join r t m) ≡ 1 = one_some _ (let z = h.inside m (omega arith) in grind (arith, nat_tests)) in
      omega arith

  pub taken_join : (m : ℕ) → taken (join r t) m ≡ min m (size r) + taken t (m - size r)
  unfolding after join_at
  taken_join m = ⊎_elim
      (λ b. let i = taken_front m (omega arith) in let z : m - size r ≡ 0 = omega arith in let y : taken t (m - size r) ≡ 0 = ap (taken t) z ∙ taken_nil t in omega arith)
      (λ b. let e : size r + (m - size r) ≡ m = omega arith in let i = taken_front (size r) (omega arith) in let u = taken_after (join r t) (size r) (m - size r) in
      let v : after (size r) (join r t) ≡ t = fun_ext (λ k. let p : size r + k - size r ≡ k = omega arith in grind (arith, nat_tests)) in
      let w : taken (after (size r) (join r t)) (m - size r) ≡ taken t (m - size r) = ap (λ x. taken x (m - size r)) v in
      let y : taken (join r t) (size r + (m - size r)) ≡ taken (join r t) m = ap (taken (join r t)) e in
      omega arith)
      (cases_lt m (size r))

  pub chain_taken : (left n m : ℕ) → m ≡ min n left → taken (first left (join r t)) n ≡ min m (size r) + taken t (m - size r)
  chain_taken left n m e = let z : min left n ≡ m = omega arith in taken_first left (join r t) n ∙ (ap (taken (join r t)) z ∙ taken_join m)

  -- the back: so many items of each part are shown
  module _ (left a b : ℕ) (g : Length t (size t)) (ea : a ≡ min (size r) left) (eb : b ≡ min (size t) (left - a)) (k : left < 2 ^ 64) where
    pub chain_length : Length (first left (join r t)) (a + b)
    unfolding first join_at
    chain_length = record {
      inside = λ n u. grind (arith, nat_tests, h.inside n, g.inside (n - size r));
      outside = λ n u. grind (arith, nat_tests, h.outside n, g.outside (n - size r));
    }

    pub chain_size : size (first left (join r t)) ≡ a + b
    chain_size = size_length (a + b) (first left (join r t)) chain_length (omega arith)

    pub chain_out : (n : ℕ) → a + b ≤ n → None ≡ back (first left (join r t)) n
    chain_out n u = let s = chain_size in sym (back_out (first left (join r t)) n (omega arith))

    pub chain_last : (n x : ℕ) (o : Option A) → n < b → x ≡ size t - b + n → o ≡ back t x → o ≡ back (first left (join r t)) n
    unfolding first join_at back_at
    chain_last n x o u e j = let s = chain_size in grind (arith, nat_tests)

    pub chain_first : (n x : ℕ) (o : Option A) → b ≤ n → n < a + b → x ≡ size r - a + (n - b) → o ≡ back r x → o ≡ back (first left (join r t)) n
    unfolding first join_at back_at
    chain_first n x o u e i j = let s = chain_size in grind (arith, nat_tests)

    -- what is left before the last m places
    pub chain_back : (m left' : ℕ) (r' t' : Row A) (x y : ℕ) → left' ≡ a + b - m → r' ≡ first x r → t' ≡ first y t → (left' ≤ x) ⊎ (size r ≤ x) → left' ≤ size r + y →
        first left' (join r' t') ≡ first (size (first left (join r t)) - m) (first left (join r t))
    unfolding first join_at
    chain_back m left' r' t' x y e er et u d =
        let s = chain_size in let v : size (first x r) ≡ min x (size r) = size_first x r h in
        ap (λ z. first left' (join z t')) er ∙ ap (λ z. first left' (join (first x r) z)) et
        ∙ fun_ext (λ n. ⊎_elim (λ w. grind (arith, nat_tests, h.outside n)) (λ w. grind (arith, nat_tests, h.outside n)) u)

-- a cut row is no longer than the cut
pub cut_fits : {A : Type 0} (n m : ℕ) (r : Row A) → Length (first n r) m → m ≤ n
cut_fits n m r h = ⊎_elim
    (λ b. let z = h.inside n b in let y = first_out n r n (omega arith) in absurd (let w : is_some (first n r n) ≡ false = ap is_some y in let v : ◌≡◌ {A = ℕ} 0 1 = cc in omega arith))
    (λ b. b) (cases_lt n m)

-- what calls of the two parts cost
pub both : {A : Type 0} {p q : ℕ → ℕ → Type 0} {v w a a' b b' : ℕ} {h h' i i' : Row A} (n : ℕ) → Spent v p a a' h h' → Spent w q b b' i i' →
    Spent (v + w) Free (a + b) (a' + b') (first n (join h i)) (first n (join h' i'))
both n s u =
    let c = s.more in let d = s.few in let e = u.more in let f = u.few in
    record { more = omega arith; few = omega arith; touched = tt; kept = ap₂ (λ x y. first n (join x y)) s.kept u.kept }

-- what the calls come to
pub ruleset chains = (taken_le, chain_ahead, chain_past, chain_taken, chain_gone, chain_here, chain_there, chain_length, chain_size, chain_out, chain_last, chain_first, both)
