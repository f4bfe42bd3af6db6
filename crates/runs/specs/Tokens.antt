-- The token calls, which are the same in every kind of set and merge.
use Rattle.std.specs.Prelude.{ℕ, ◌+◌, ◌-◌, Bool, cond, not, Some, None, Ok, Err, Option, Result, ◌==◌}
use Rattle.tasks.specs.declared.fault.Fault.{Fault}
use Rattle.tasks.specs.declared.fault.Fault.TheVariants.{NoSuchSlot, TooManyTokens, OtherName, NoTokenOut, TokensOut}
use Rattle.tasks.specs.declared.fault.Refused.{Refused}
use Rattle.wakes.specs.declared.waker.Waker.{Waker}

-- At most that many tokens are out at a time.
abbrev pub most_tokens : ℕ
most_tokens = 65535

-- What the token calls need of a kind of set: its name, how many tokens are out, whether an address is an occupied
-- slot of a live group and whether a group that was ever made has it, and what a wake of a slot does and notices.
pub record Tokened (S : Type 0) : Type 0 where
  pub name : S → ℕ
  pub out : S → ℕ
  pub with_out : S → ℕ → S
  pub occupied : S → ℕ → Bool
  pub known : S → ℕ → Bool
  pub woken : S → ℕ → S
  pub notices : S → ℕ → ℕ

abbrev pub some_out : ℕ → Bool
some_out out = not (out == 0)

abbrev pub not_most : ℕ → Bool
not_most out = not (out == most_tokens)

-- Why a call is refused, by the first check that fails; nothing where it is carried out.
abbrev pub unless : Bool → Fault → Option Fault → Option Fault
unless ok f rest = cond ok rest (Some f)

-- What a call answers that is refused or not, and the set after it: a refused call leaves the set as it was.
abbrev pub answers : {A I : Type 0} → Option Fault → I → A → Result A (Refused I)
answers None i a = Ok a
answers (Some f) i a = Err (record { fault = f; input = i })

abbrev pub answers_lent : {A : Type 0} → Option Fault → A → Result A Fault
answers_lent None a = Ok a
answers_lent (Some f) a = Err f

abbrev pub leaves : {S : Type 0} → Option Fault → S → S → S
leaves None before after = after
leaves (Some f) before after = before

module _ {S : Type 0} (k : Tokened S) where
  abbrev pub below_most : S → Option Fault
  below_most s = unless (not_most (k.out s)) (TooManyTokens (k.out s)) None

  -- A hand asks for an occupied slot, and then for room for one more token.
  abbrev pub hand_fault : S → ℕ → Option Fault
  hand_fault s a = unless (k.occupied s a) (NoSuchSlot a) (below_most s)

  -- A token has to bear the set's name, then some token has to be out, and then the address has to be known.
  abbrev pub token_fault : S → Waker → Option Fault → Option Fault
  token_fault s t rest =
      unless (t.name == k.name s) (OtherName t.name)
      (unless (some_out (k.out s)) NoTokenOut
      (unless (k.known s t.address) (NoSuchSlot t.address) rest))

  abbrev pub clone_fault : S → Waker → Option Fault
  clone_fault s t = token_fault s t (below_most s)

  abbrev pub spend_fault : S → Waker → Option Fault
  spend_fault s t = token_fault s t None

  -- A set may end while no token is out.
  abbrev pub end_fault : S → Option Fault
  end_fault s = cond (some_out (k.out s)) (Some (TokensOut (k.out s))) None

  abbrev pub one_more : S → S
  one_more s = k.with_out s (k.out s + 1)

  abbrev pub one_less : S → S
  one_less s = k.with_out s (k.out s - 1)
