-- An answer that is true is the only one, so loading answers exactly so.
use Rattle.std.proofs.Common.{◌≡◌, ℕ, ◌≤◌, List, length, Ok, Err, sym, refl, ap, ◌∙◌, subst, arith}
use Rattle.std.proofs.lemmas.Bool.{true≢false, false≢true}
use Rattle.frame.specs.declared.stroke.Stroke.{Stroke}
use Rattle.ticket.specs.declared.faults.CanFault.{CanFault}
use Rattle.ticket.specs.declared.record.Record.{Record}
use Rattle.ticket.specs.declared.loaded.Loaded.{Loaded}
use Rattle.ticket.specs.Lists.{Says, strokes}
use Rattle.ticket.specs.Refusals.{Refuses}
use Rattle.frame.specs.Bytes.{over}
use Rattle.ticket.specs.Loading.{room_of, Loading, Judged}
use Rattle.ticket.specs.Reading.{strokes_in}
use Rattle.ticket.proofs.Codes.{bodies, unique}
use Rattle.ticket.proofs.Fills.{lawful_fits, lawful_room, adds_tint, adds_purge, over_is}
use Rattle.ticket.proofs.Verdicts.{never, only}

-- for callers: the counts that loading answers lie within the tables
pub within : (table bs : List ℕ) (ps ps' ts ts' : List Stroke) (l : Loaded) → Loading table bs ps ps' ts ts' (Ok l) → (l.purges ≤ length ps) × (l.tints ≤ length ts)
within table bs ps ps' ts ts' l h =
    let s = h.lawful refl in
    let d = h.loads s.0 s.1 s.2 in
    let e : l ≡ d.loaded = cc (d.answers) in
    let r = lawful_room (room_of ps ts) s.0 s.1 in
    (omega (arith, ap (λ (x : Loaded). x.purges) e, d.says.purges, r.0), omega (arith, ap (λ (x : Loaded). x.tints) e, d.says.tints, r.1))

module _ (bs : List ℕ) (ps ts : List Stroke) where
  pub accepts : (ps' ts' : List Stroke) (l : Loaded) → Judged bodies (room_of ps ts) bs (Ok l)
      → ps' ≡ over (strokes 3 (strokes_in bodies bs)) ps → ts' ≡ over (strokes 2 (strokes_in bodies bs)) ts → Loading bodies bs ps ps' ts ts' (Ok l)
  accepts ps' ts' l j p t =
      let room = room_of ps ts in
      record {
        lawful = λ _. (j.0, j.1, j.2);
        loads = λ rs law w.
            record {
              loaded = l;
              answers = refl;
              purges = p ∙ over_is 3 adds_purge room rs law bs w ps;
              tints = t ∙ over_is 2 adds_tint room rs law bs w ts;
              says = subst (λ (z : List Record). Says z l) (unique j.0 rs (lawful_fits room j.0 j.1) (lawful_fits room rs law) (j.2 ∙ sym w)) j.3;
            };
        why = λ e h. cc;
        when = λ e h. absurd (never room bs e j.0 h j.1 j.2);
        kept = λ h. absurd (true≢false h);
      }

  pub refuses : (e : CanFault) → Judged bodies (room_of ps ts) bs (Err e) → Loading bodies bs ps ps ts ts (Err e)
  refuses e j =
      let room = room_of ps ts in
      record {
        lawful = λ h. absurd (false≢true h);
        loads = λ rs law w. absurd (never room bs e rs j law w);
        why = λ f h. let e : e ≡ f = cc in subst (Refuses bodies room bs) e j;
        when = λ f h. ap (λ (x : CanFault). Err x) (only room bs e f j h);
        kept = λ _. (refl, refl);
      }
