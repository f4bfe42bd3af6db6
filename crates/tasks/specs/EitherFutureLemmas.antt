use Rattle.std.specs.Prelude.{◌≡◌, ℕ, refl}
use Rattle.std.proofs.Common.{arith}
use Rattle.tasks.specs.Kinds.{left_poll, right_poll}
use Rattle.tasks.specs.declared.either.Either.{Either}
use Rattle.tasks.specs.declared.either.Either.TheVariants.{Left, Right}
use Rattle.tasks.specs.declared.poll.Poll.{Poll}
use Rattle.tasks.specs.declared.poll.Poll.TheVariants.{Ready, Pending}

-- what an Either answers is what the task in it answers
pub left_pending : {A B : Type 0} (p : Poll A) → left_poll {B = B} p ≡ Pending → p ≡ Pending
left_pending (Ready x) e = let z : ◌≡◌ {A = ℕ} 0 1 = cc in absurd (omega arith)
left_pending Pending e = refl

pub right_pending : {A B : Type 0} (p : Poll B) → right_poll {A = A} p ≡ Pending → p ≡ Pending
right_pending (Ready x) e = let z : ◌≡◌ {A = ℕ} 0 1 = cc in absurd (omega arith)
right_pending Pending e = refl

pub left_ready : {A B : Type 0} (p : Poll A) (x : Either A B) → left_poll p ≡ Ready x → (y : A) × ((p ≡ Ready y) × (Left y ≡ x))
left_ready (Ready y) x e = (y, (refl, cc))
left_ready Pending x e = let z : ◌≡◌ {A = ℕ} 0 1 = cc in absurd (omega arith)

pub right_ready : {A B : Type 0} (p : Poll B) (x : Either A B) → right_poll p ≡ Ready x → (y : B) × ((p ≡ Ready y) × (Right y ≡ x))
right_ready (Ready y) x e = (y, (refl, cc))
right_ready Pending x e = let z : ◌≡◌ {A = ℕ} 0 1 = cc in absurd (omega arith)
