-- A fault's number, layer and place, and the fault inside it, for each case.
-- Layer 1 is the slots, 2 the wakes, 3 the parking, 4 the groups.
use Rattle.std.specs.Prelude.{ℕ, List, ◌++◌, Some, None, Option, codes, decimal}
use Rattle.tasks.specs.declared.fault.Fault.{Fault}
use Rattle.tasks.specs.declared.fault.Fault.TheVariants.{NoVacantSlot, ParkingFull, NoSuchSlot, TooManyTokens, OtherName, NoTokenOut, TokensOut, NoNextGroup}

abbrev pub number_of : Fault → ℕ
number_of (NoVacantSlot capacity) = 1
number_of (ParkingFull places) = 2
number_of (NoSuchSlot address) = 3
number_of (TooManyTokens out) = 4
number_of (OtherName name) = 5
number_of NoTokenOut = 6
number_of (TokensOut count) = 7
number_of (NoNextGroup group capacity) = 8

abbrev pub layer_of : Fault → ℕ
layer_of (NoVacantSlot capacity) = 1
layer_of (ParkingFull places) = 3
layer_of (NoSuchSlot address) = 1
layer_of (TooManyTokens out) = 2
layer_of (OtherName name) = 2
layer_of NoTokenOut = 2
layer_of (TokensOut count) = 2
layer_of (NoNextGroup group capacity) = 4

abbrev pub place_of : Fault → ℕ
place_of (NoVacantSlot capacity) = capacity
place_of (ParkingFull places) = places
place_of (NoSuchSlot address) = address
place_of (TooManyTokens out) = out
place_of (OtherName name) = name
place_of NoTokenOut = 0
place_of (TokensOut count) = count
place_of (NoNextGroup group capacity) = group

-- A group that does not fit is asked for because the last group has no vacant slot.
abbrev pub inside_of : Fault → Option Fault
inside_of (NoVacantSlot capacity) = None
inside_of (ParkingFull places) = None
inside_of (NoSuchSlot address) = None
inside_of (TooManyTokens out) = None
inside_of (OtherName name) = None
inside_of NoTokenOut = None
inside_of (TokensOut count) = None
inside_of (NoNextGroup group capacity) = Some (NoVacantSlot capacity)

-- A fault as text.
abbrev pub shown : Fault → List ℕ
shown f = codes "fault " ++ (decimal (number_of f) ++ (codes ", layer " ++ (decimal (layer_of f) ++ (codes ", place " ++ decimal (place_of f)))))
