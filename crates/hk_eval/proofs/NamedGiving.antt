-- Tasks that agree after what a task may give.
use Rattle.std.proofs.Common.{◌≡◌, refl, ap}
use Rattle.std.proofs.Math.Path.{fun_ext}
use Rattle.hk_fix.specs.Task.{Task, gives, fails, asks, notes, ◌▷◌}
use Rattle.hk_eval.proofs.Giving.{AllGive}

-- what follows has to agree only on what may be given
pub bind-good : {A B : Type 0} (Q : A → Type 0) (t : Task A) (f g : A → Task B) → AllGive Q t → ((x : A) → Q x → f x ≡ g x) → t ▷ f ≡ t ▷ g
bind-good Q (gives x) f g q h = h x q
bind-good Q (fails e) f g q h = refl
bind-good Q (asks ps k) f g q h = ap (asks ps) (fun_ext (λ xs. bind-good Q (k xs) f g (q xs) h))
bind-good Q (notes n t) f g q h = ap (notes n) (bind-good Q t f g q h)
