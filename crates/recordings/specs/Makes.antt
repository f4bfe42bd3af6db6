-- What a make line asks for.
use Rattle.std.specs.Prelude.{◌≡◌, ℕ, Bool, true, false, List, Some, None, is_some, Option}
use Rattle.recordings.specs.declared.make.Key.{Key}
use Rattle.recordings.specs.declared.make.Key.TheVariants.{Name, First, Slots, Wakes, Parking}
use Rattle.recordings.specs.declared.make.Keys.{Keys}
use Rattle.recordings.specs.declared.make.Kind.{Kind}
use Rattle.recordings.specs.declared.make.Kind.TheVariants.{Bounded, Ordered, Growing, GrowingOrdered, Merge, GrowingMerge}
use Rattle.recordings.specs.declared.make.Make.{Make}
use Rattle.std.specs.Str.Parse.{digits_value}

abbrev pub has_first : Kind → Bool
has_first Bounded = false
has_first Ordered = false
has_first Growing = true
has_first GrowingOrdered = true
has_first Merge = false
has_first GrowingMerge = false

abbrev pub has_parking : Kind → Bool
has_parking Bounded = false
has_parking Ordered = true
has_parking Growing = false
has_parking GrowingOrdered = true
has_parking Merge = false
has_parking GrowingMerge = false

abbrev pub key_of : Key → Keys → Option ℕ
key_of Name ks = ks.name
key_of First ks = ks.first
key_of Slots ks = ks.slots
key_of Wakes ks = ks.wakes
key_of Parking ks = ks.parking

abbrev pub with_key : Key → ℕ → Keys → Keys
with_key Name n ks = record { name = Some n; first = ks.first; slots = ks.slots; wakes = ks.wakes; parking = ks.parking }
with_key First n ks = record { name = ks.name; first = Some n; slots = ks.slots; wakes = ks.wakes; parking = ks.parking }
with_key Slots n ks = record { name = ks.name; first = ks.first; slots = Some n; wakes = ks.wakes; parking = ks.parking }
with_key Wakes n ks = record { name = ks.name; first = ks.first; slots = ks.slots; wakes = Some n; parking = ks.parking }
with_key Parking n ks = record { name = ks.name; first = ks.first; slots = ks.slots; wakes = ks.wakes; parking = Some n }

-- A key that was not there yet is written down with the number behind it.
abbrev pub KeyPut : Key → List ℕ → Keys → Keys → Type 0
KeyPut k text before after = (key_of k before ≡ None) × (after ≡ with_key k (digits_value 10 text) before)

-- All keys that the kind has were there, and no other.
abbrev pub MadeOf : Kind → Keys → Make → Type 0
MadeOf k ks m =
    (m.kind ≡ k)
    × (ks.name ≡ Some m.name)
    × (ks.first ≡ m.first) × (is_some m.first ≡ has_first k)
    × (ks.slots ≡ Some m.slots)
    × (ks.wakes ≡ Some m.wakes)
    × (ks.parking ≡ m.parking) × (is_some m.parking ≡ has_parking k)
