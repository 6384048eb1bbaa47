-- What holds of the value that a device's fields are seen as holds of the value that they had.
use Rattle.std.proofs.Common.{◌≡◌, ap, subst}
use Rattle.psu_exec.specs.Device.{State, ExecOf, with_device}

-- the value on the left of an equation
abbrev pub seen : {X : Type 0} {s t : X} → s ≡ t → X
seen {X} {s} {t} e = s

pub device_is : {S : Type 0} {e f : ExecOf S} → e ≡ f → e.device ≡ f.device
device_is {S} {e} {f} is = ap (λ (x : ExecOf S). x.device) is

pub so_seen : {S : Type 0} {e f : ExecOf S} (P : State → Type 0) → e ≡ f → P e.device → P f.device
so_seen {S} {e} {f} P is = subst (λ (x : ExecOf S). P x.device) is

-- a new value is the old one with another state
pub after_seen : {S : Type 0} {e f new : ExecOf S} (after : State → State) → e ≡ f → new ≡ with_device e (after e.device) → new ≡ with_device f (after f.device)
after_seen {S} {e} {f} {new} after is = subst (λ (x : ExecOf S). new ≡ with_device x (after x.device)) is

pub store_is : {S : Type 0} {e f : ExecOf S} → e ≡ f → e.idle_store ≡ f.idle_store
store_is {S} {e} {f} is = ap (λ (x : ExecOf S). x.idle_store) is
