-- The waiting places: what a put does to them, and whose turn it is.
use Rattle.std.specs.Prelude.{◌≡◌, ℕ, if◌then◌else◌, not, ◌&&◌, is_some, Some, None, Ok, Err, Option, Result, ⊤}
use Rattle.std.specs.Option.{option_map}
use Rattle.bus.specs.declared.party.Party.{Party}
use Rattle.bus.specs.declared.party.Party.TheVariants.{Valve, Label, Stir}
use Rattle.bus.specs.declared.fault.Fault.{Fault}
use Rattle.bus.specs.declared.fault.Fault.TheVariants.{Taken}
use Rattle.bus.specs.declared.request.Call.{Call}
use Rattle.bus.specs.declared.request.FrontCall.{FrontCall}
use Rattle.bus.specs.declared.request.Request.{Request}
use Rattle.bus.specs.declared.waits.Waits.{Waits}
use Rattle.bus.specs.declared.waits.Turn.{Turn}
use Rattle.bus.specs.declared.waits.Turn.TheVariants.{Valve as ValveTurn, Label as LabelTurn, Stir as StirTurn}
use Rattle.bus.specs.Numbers.{number, same, party_of, has_back, call_of, is_back, whole, fault_number}

-- the request that waits for each party
abbrev pub Waiting : Type 0
Waiting = Party → Option (Request Call)

abbrev pub nobody : Waiting
nobody = λ p. None

-- one party's place changed
abbrev pub placed : Party → Option (Request Call) → Waiting → Waiting
placed p o w = λ q. if same q p then o else w q

-- a put's request in its place, or the number of the refusal
abbrev pub seat : Party → Request Call → Waiting → Result Waiting ℕ
seat p q w = if is_back q.call && not (has_back p) then Err 23 else if is_some (w p) then Err 24 else Ok (placed p (Some q) w)

-- the same, with the party and the call as their numbers are read
abbrev pub admit_read : Option Party → Option Call → ℕ → Waiting → Result Waiting ℕ
admit_read None o n w = Err 21
admit_read (Some p) None n w = Err 22
admit_read (Some p) (Some c) n w = seat p (record { call = c; n = n }) w

abbrev pub admit : ℕ → ℕ → ℕ → Waiting → Result Waiting ℕ
admit p c n w = admit_read (party_of p) (call_of c) n w

-- what waits after it
abbrev pub kept : Result Waiting ℕ → Waiting → Waiting
kept (Ok v) w = v
kept (Err e) w = w

-- a request with the party that made it
pub record Served : Type 0 where
  pub party : Party
  pub request : Request Call

-- whose turn it is: the lowest party that waits
abbrev pub lowest : Option (Request Call) → Option (Request Call) → Option (Request Call) → Option Served
lowest (Some q) l s = Some (record { party = Valve; request = q })
lowest None (Some q) s = Some (record { party = Label; request = q })
lowest None None (Some q) = Some (record { party = Stir; request = q })
lowest None None None = None

abbrev pub turn : Waiting → Option Served
turn w = lowest (w Valve) (w Label) (w Stir)

-- what waits once it was served
abbrev pub freed : Option Served → Waiting → Waiting
freed None w = w
freed (Some u) w = placed u.party None w

-- what a turn asks of a party's pile
abbrev pub asks_of : Party → Option Served → Option (Request Call)
asks_of p None = None
asks_of p (Some u) = if same p u.party then Some u.request else None

-- what the code's own waiting places, turns and answers mean
abbrev pub widened : Request FrontCall → Request Call
widened q = record { call = whole q.call; n = q.n }

abbrev pub waiting : Waits → Waiting
waiting w Valve = w.valve
waiting w Label = w.label
waiting w Stir = option_map widened w.stir

abbrev pub turn_of : Option Turn → Option Served
turn_of None = None
turn_of (Some (ValveTurn q)) = Some (record { party = Valve; request = q })
turn_of (Some (LabelTurn q)) = Some (record { party = Label; request = q })
turn_of (Some (StirTurn q)) = Some (record { party = Stir; request = widened q })

-- a put's answer in numbers: the party, or the refusal
abbrev pub told : Result Party Fault → Result ℕ ℕ
told (Ok p) = Ok (number p)
told (Err e) = Err (fault_number e)

abbrev pub verdict : ℕ → Result Waiting ℕ → Result ℕ ℕ
verdict p (Ok w) = Ok p
verdict p (Err e) = Err e

-- the code's waiting places before and after a request is seated
pub record Seated (p : Party) (q : Request Call) (w : Waits) (r : Result Party Fault) (v : Waits) : Type 0 where
  pub answer : told r ≡ verdict (number p) (seat p q (waiting w))
  pub rest : waiting v ≡ kept (seat p q (waiting w)) (waiting w)

-- one waiting place of the code: it takes the request, or it is taken and stays
pub record Reserved {C : Type 0} (q : Request C) (o : Option (Request C)) (r : Result ⊤ Fault) (m : Option (Request C)) : Type 0 where
  pub answer : r ≡ (if is_some o then Err Taken else Ok tt)
  pub rest : m ≡ (if is_some o then o else Some q)
