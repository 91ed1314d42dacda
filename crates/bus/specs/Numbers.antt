-- Parties, calls and refusals by their numbers.
use Rattle.std.specs.Prelude.{ℕ, Bool, true, false, if◌then◌else◌, Some, None, Option, ◌==◌}
use Rattle.bus.specs.declared.party.Party.{Party}
use Rattle.bus.specs.declared.party.Party.TheVariants.{Valve, Label, Stir}
use Rattle.bus.specs.declared.request.Call.{Call}
use Rattle.bus.specs.declared.request.Call.TheVariants.{Next, Nth, Advance, NextBack, NthBack, AdvanceBack}
use Rattle.bus.specs.declared.request.FrontCall.{FrontCall}
use Rattle.bus.specs.declared.request.FrontCall.TheVariants.{Next as FrontNext, Nth as FrontNth, Advance as FrontAdvance}
use Rattle.bus.specs.declared.fault.Fault.{Fault}
use Rattle.bus.specs.declared.fault.Fault.TheVariants.{UnknownParty, UnknownCall, NoBack, Taken, Short}

abbrev pub number : Party → ℕ
number Valve = 1
number Label = 2
number Stir = 3

abbrev pub same : Party → Party → Bool
same p q = number p == number q

abbrev pub party_of : ℕ → Option Party
party_of b = if b == number Valve then Some Valve else if b == number Label then Some Label else if b == number Stir then Some Stir else None

-- whether the party's pile has two ends
abbrev pub has_back : Party → Bool
has_back Valve = true
has_back Label = true
has_back Stir = false

abbrev pub call_number : Call → ℕ
call_number Next = 1
call_number Nth = 2
call_number Advance = 3
call_number NextBack = 4
call_number NthBack = 5
call_number AdvanceBack = 6

abbrev pub call_of : ℕ → Option Call
call_of b =
    if b == call_number Next then Some Next
    else if b == call_number Nth then Some Nth
    else if b == call_number Advance then Some Advance
    else if b == call_number NextBack then Some NextBack
    else if b == call_number NthBack then Some NthBack
    else if b == call_number AdvanceBack then Some AdvanceBack
    else None

-- whether a call works from the back
abbrev pub is_back : Call → Bool
is_back Next = false
is_back Nth = false
is_back Advance = false
is_back NextBack = true
is_back NthBack = true
is_back AdvanceBack = true

-- a front cursor's call among all calls, and back
abbrev pub whole : FrontCall → Call
whole FrontNext = Next
whole FrontNth = Nth
whole FrontAdvance = Advance

abbrev pub front_of : Call → Option FrontCall
front_of Next = Some FrontNext
front_of Nth = Some FrontNth
front_of Advance = Some FrontAdvance
front_of NextBack = None
front_of NthBack = None
front_of AdvanceBack = None

abbrev pub fault_number : Fault → ℕ
fault_number UnknownParty = 21
fault_number UnknownCall = 22
fault_number NoBack = 23
fault_number Taken = 24
fault_number Short = 25
