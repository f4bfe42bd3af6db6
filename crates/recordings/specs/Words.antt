-- What the words of a recording stand for.
use Rattle.std.specs.Prelude.{◌≡◌, ◌≢◌, ℕ, ◌^◌, ◌<◌, Bool, cond, List, codes, Result, MatchResult}
use Rattle.recordings.specs.declared.call.Call.{Call}
use Rattle.recordings.specs.declared.call.Call.TheVariants.{Push, PushBack, PushFront, Poll, Hand, Clone, Wake, WakeByRef, Drop, MayEnd, Len, Capacity}
use Rattle.recordings.specs.declared.call.Task.{Task}
use Rattle.recordings.specs.declared.call.Task.TheVariants.{Future, Stream}
use Rattle.recordings.specs.declared.make.Key.{Key}
use Rattle.recordings.specs.declared.make.Key.TheVariants.{Name, First, Slots, Wakes, Parking}
use Rattle.recordings.specs.declared.make.Kind.{Kind}
use Rattle.recordings.specs.declared.make.Kind.TheVariants.{Bounded, Ordered, Growing, GrowingOrdered, Merge, GrowingMerge}
use Rattle.recordings.specs.declared.reason.Reason.{Reason}
use Rattle.std.specs.Str.Parse.{IsNumeral, digits_value, without_leading_plus}
use Rattle.tasks.specs.declared.either.Either.TheVariants.{Left, Right}

-- A word is read exactly if it is a decimal numeral, without a sign, of so many bits.
abbrev pub Decimal : {N E : Type 0} → ℕ → (N → ℕ) → List ℕ → Result N E → Type 0
Decimal bits value word r =
    MatchResult r
    (λ n. (IsNumeral 10 word × (digits_value 10 word < 2 ^ bits)) × (value n ≡ digits_value 10 word))
    (λ _. ¬ (IsNumeral 10 word × (digits_value 10 word < 2 ^ bits)))

-- What `parse` does at a type of so many bits: it passes over a plus.
abbrev pub Parses : {N E : Type 0} → (List ℕ → Result N E → Type 0) → ℕ → (N → ℕ) → Type 0
Parses gives bits value = (word : List ℕ) (r : _) → gives word r → Decimal bits value (without_leading_plus word) r

-- A word is read exactly if it is one of these words.
abbrev pub Named : {A : Type 0} → (A → List ℕ) → List ℕ → Result A Reason → Type 0
Named word_of word r = MatchResult r (λ a. word ≡ word_of a) (λ _. (a : _) → word ≢ word_of a)

abbrev pub flag_word : Bool → List ℕ
flag_word b = cond b (codes "1") (codes "0")

-- The word that names a key, a kind, a call, a task.
abbrev pub key_name : Key → List ℕ
key_name Name = codes "name"
key_name First = codes "first"
key_name Slots = codes "slots"
key_name Wakes = codes "wakes"
key_name Parking = codes "parking"

abbrev pub kind_name : Kind → List ℕ
kind_name Bounded = codes "bounded"
kind_name Ordered = codes "ordered"
kind_name Growing = codes "growing"
kind_name GrowingOrdered = codes "growing-ordered"
kind_name Merge = codes "merge"
kind_name GrowingMerge = codes "growing-merge"

abbrev pub call_name : Call → List ℕ
call_name (Push t) = codes "push"
call_name (PushBack t) = codes "push-back"
call_name (PushFront t) = codes "push-front"
call_name Poll = codes "poll"
call_name (Hand a) = codes "hand"
call_name (Clone t) = codes "clone"
call_name (Wake t) = codes "wake"
call_name (WakeByRef t) = codes "wake-ref"
call_name (Drop t) = codes "drop"
call_name MayEnd = codes "may-end"
call_name Len = codes "len"
call_name Capacity = codes "capacity"

abbrev pub task_name : Task → List ℕ
task_name (Future (Left c)) = codes "countdown"
task_name (Future (Right l)) = codes "letter"
task_name (Stream (Left t)) = codes "ticker"
task_name (Stream (Right m)) = codes "mailbag"
