-- The events of a message.
use Rattle.std.proofs.Common.{◌≡◌, ℕ, Bool, true, false, Option, Some, None, List, [], ◌∷◌, ◌++◌, refl, sym, ap, ◌∙◌, subst}
use Rattle.std.proofs.lemmas.List.Concat.{flat_map-append}
use Rattle.psu_locks.specs.declared.requests.Kind.{Kind}
use Rattle.psu_hislip.specs.Action.{Act}
use Rattle.psu_hislip.specs.LockResponses.{lock_response}
use Rattle.psu_hislip.specs.declared.header.Header.{Header}
use Rattle.psu_session.specs.Locking.{kind_of}
use Rattle.psu_session.specs.Events.{Event, DeviceCalled, Locked, waits_after}
use Rattle.psu_session_laws.specs.Requests.{immediate, immediate_in}
use Rattle.psu_session.specs.Step.{Does, Each, IsLocked, puts_any}

by : (known done : List Event) → done ≡ known → immediate known ≡ known → immediate done ≡ done
by known done e is = subst (λ (z : List Event). immediate z ≡ z) (sym e) is

response : (header : Option Header) → immediate (puts_any header) ≡ puts_any header
response None = refl
response (Some header) = refl

locked : (waits : Bool) (timeout : ℕ) (kind : Option Kind) (done : List Event) → IsLocked waits timeout kind done → immediate done ≡ done
locked true timeout kind done e = by _ done e refl
locked false timeout None done e = by _ done e refl
locked false timeout (Some kind) done (reply, e) = by _ done e (ap (λ (z : List Event). DeviceCalled (Locked kind timeout reply) ∷ z) (response (lock_response reply)))

does : (waits : Bool) (act : Act) (done : List Event) → Does waits act done → immediate done ≡ done
does waits (Act.Send side bytes) done e = by _ done e refl
does waits (Act.Execute origin bytes) done e = by _ done e refl
does waits (Act.TooMuch origin) done e = by _ done e refl
does waits (Act.Trigger origin) done e = by _ done e refl
does waits Act.Delivered done e = by _ done e refl
does waits (Act.Status true) done (byte, e) = by _ done e refl
does waits (Act.Status false) done (byte, e) = by _ done e refl
does waits (Act.Lock timeout string) done e = locked waits timeout (kind_of string) done e
does waits Act.Release done e = by _ done e refl
does waits Act.Info done (info, e) = by _ done e refl
does waits Act.Clear done e = by _ done e refl
does waits Act.Closed done e = by _ done e refl

pub each_does : (waits : Bool) (acts : List Act) (done : List Event) → Each waits acts done → immediate done ≡ done
each_does waits [] done e = by [] done e refl
each_does waits (act ∷ acts) done (first, more, is, one, rest) =
    by (first ++ more) done is
    (flat_map-append immediate_in first more ∙ ap (λ (z : List Event). z ++ immediate more) (does waits act first one) ∙ ap (λ (z : List Event). first ++ z) (each_does (waits_after waits first) acts more rest))
