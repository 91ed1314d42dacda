-- What a reader has seen is what the records so far say.
use Rattle.std.proofs.Common.{◌≡◌, ℕ, zero, suc, ◌+◌, Bool, cond, eqb, List, [], ◌∷◌, ◌++◌, length, get_or, set, replicate, sym, refl, ap, ◌∙◌, inl, inr, arith, length-set, get_or-set_other, get_or-set_same}
use Rattle.std.proofs.lemmas.Bool.{cases_eq, eq-eqb, ne_eqb}
use Rattle.cursor.specs.declared.stride.Stride.{Stride}
use Rattle.ticket.specs.declared.record.Record.{Record}
use Rattle.ticket.specs.declared.record.Record.TheVariants.{Every}
use Rattle.ticket.specs.declared.seen.Room.{Room}
use Rattle.ticket.specs.declared.seen.Seen.{Seen}
use Rattle.ticket.specs.Records.{kind}
use Rattle.ticket.specs.Lists.{can_of, says, is, count, said, Says}
use Rattle.ticket.specs.Reading.{tally, nothing, stride_or, noted, answered}
use Rattle.ticket.proofs.Codes.{bodies, body_some}
use Rattle.ticket.proofs.Rights.{count_append}

pub record Holds (s : Seen) (rs : List Record) : Type 0 where
  pub counts : (k : ℕ) → tally s k ≡ count k rs
  pub kinds : length s.counts ≡ 16
  pub can : s.said.can ≡ said can_of 1 0 rs
  pub size : s.said.size ≡ said says 1 0 rs
  pub resume : s.said.resume ≡ said says 4 0 rs
  pub limit : s.said.limit ≡ said says 5 18446744073709551615 rs
  pub stride : s.said.stride.steps ≡ said says 6 1 rs
  pub first : s.said.first ≡ said says 7 0 rs

zeros : (n k : ℕ) → ◌≡◌ {A = ℕ} (get_or (replicate n 0) k 0) 0
zeros zero k = refl
zeros (suc n) zero = refl
zeros (suc n) (suc k) = zeros n k

pub holds_none : (room : Room) → Holds (nothing room) []
holds_none room = record { counts = zeros 16; kinds = refl; can = refl; size = refl; resume = refl; limit = refl; stride = refl; first = refl }

said_push : (f : Record → ℕ) (k d : ℕ) (rs : List Record) (r : Record) → said f k d (rs ++ (r ∷ [])) ≡ cond (eqb (kind r) k) (f r) (said f k d rs)
said_push f k d [] r = refl
said_push f k d (x ∷ rs) r = said_push f k (cond (eqb (kind x) k) (f x) d) rs r

stride_push : (r : Record) (d : Stride) → (stride_or r d).steps ≡ cond (eqb (kind r) 6) (says r) d.steps
stride_push (Every s) d = refl
stride_push _ d = refl

module _ (s : Seen) (rs : List Record) (r : Record) (h : Holds s rs) where
  counted : (k : ℕ) → tally (noted bodies s r) k ≡ count k (rs ++ (r ∷ []))
  counted k =
      let a = count_append k rs (r ∷ []) in
      let b = h.counts k in
      elim (cases_eq (kind r) k) [
        | inl e ↦
            (let one : is k r ≡ 1 = ap (λ (t : Bool). cond t 1 0) (eq-eqb (kind r) k e) in
            ap (λ (j : ℕ). get_or (set s.counts j (get_or s.counts j 0 + 1)) k 0) e ∙ (get_or-set_same s.counts k (tally s k + 1) 0 (omega (arith, e, (body_some r).1, h.kinds)) ∙ omega arith))
        | inr n ↦
            (let none : is k r ≡ 0 = ap (λ (t : Bool). cond t 1 0) (ne_eqb (kind r) k n) in
            get_or-set_other s.counts (kind r) k (tally s (kind r) + 1) 0 (λ e. n (sym e)) ∙ omega arith)
      ]

  follows : (f : Record → ℕ) (k d x : ℕ) → x ≡ said f k d rs → cond (eqb (kind r) k) (f r) x ≡ said f k d (rs ++ (r ∷ []))
  follows f k d x e = ap (λ (y : ℕ). cond (eqb (kind r) k) (f r) y) e ∙ sym (said_push f k d rs r)

  pub holds_push : Holds (noted bodies s r) (rs ++ (r ∷ []))
  holds_push = record {
    counts = counted;
    kinds = length-set s.counts (kind r) (tally s (kind r) + 1) ∙ h.kinds;
    can = follows can_of 1 0 s.said.can h.can;
    size = follows says 1 0 s.said.size h.size;
    resume = follows says 4 0 s.said.resume h.resume;
    limit = follows says 5 18446744073709551615 s.said.limit h.limit;
    stride = stride_push r s.said.stride ∙ follows says 6 1 s.said.stride.steps h.stride;
    first = follows says 7 0 s.said.first h.first;
  }

pub holds_says : (s : Seen) (rs : List Record) → Holds s rs → Says rs (answered s)
holds_says s rs h = record {
  purges = h.counts 3;
  tints = h.counts 2;
  can = h.can;
  size = h.size;
  resume = h.resume;
  limit = h.limit;
  stride = h.stride;
  first = h.first;
}
