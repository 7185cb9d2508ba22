-- The numbers of the refusals (document 01, "What each call turns down"; 17 to 19 document 02). Definitions only.
use Rattle.std.specs.Prelude.{ℕ, Result, Ok, Err}
use Rattle.refusals.specs.declared.Refusal.{Refusal}
use Rattle.refusals.specs.declared.Refusal.TheVariants.{BadSize, BadSpacing, BadStudy, BadStore, Full, TooManyPoles, NoSuchMaterial, StaleMaterial, BadRegion, BadOrder, SpentClock, NoRoom, Short, BadMark, BadRecord, Trailing, NoSuchPlane, BadPole}

abbrev pub number : Refusal → ℕ
number BadSize = 1
number BadSpacing = 2
number BadStudy = 3
number BadStore = 4
number Full = 5
number TooManyPoles = 6
number NoSuchMaterial = 7
number StaleMaterial = 8
number BadRegion = 9
number BadOrder = 10
number SpentClock = 11
number NoRoom = 12
number Short = 13
number BadMark = 14
number BadRecord = 15
number Trailing = 16
number NoSuchPlane = 17
number BadPole = 19

-- what a call answers in numbers: 0, or its refusal's number
abbrev pub code : {A : Type 0} → Result A Refusal → ℕ
code (Ok _) = 0
code (Err f) = number f

-- what a call answers, or d where it is refused
abbrev pub value_or : {A : Type 0} → A → Result A Refusal → A
value_or d (Ok x) = x
value_or d (Err f) = d
