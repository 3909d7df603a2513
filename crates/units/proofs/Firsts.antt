-- The first fault that is met. Assumes nothing.
use Rattle.std.proofs.Common.{◌≡◌, List, [], ◌∷◌, ◌++◌, Some, None, Ok, Err, Option, refl}
use Rattle.units.specs.declared.fault.Fault.{Fault}
use Rattle.units.specs.Refusals.{first, unless_refused}

-- none in front of others leaves theirs
pub first_after : (fs gs : List (Option Fault)) → first fs ≡ None → first (fs ++ gs) ≡ first gs
first_after [] gs e = refl
first_after (None ∷ fs) gs e = first_after fs gs e
first_after (Some f ∷ fs) gs e = cc

-- one in front of others is the first of all
pub first_before : (fs gs : List (Option Fault)) (f : Fault) → first fs ≡ Some f → first (fs ++ gs) ≡ Some f
first_before [] gs f e = cc
first_before (None ∷ fs) gs f e = first_before fs gs f e
first_before (Some g ∷ fs) gs f e = e

pub accepted : {X : Type 0} (o : Option Fault) (x y : X) → unless_refused o x ≡ Ok y → (o ≡ None) × (x ≡ y)
accepted None x y e = (refl, cc)
accepted (Some f) x y e = cc

pub refused : {X : Type 0} (o : Option Fault) (x : X) (f : Fault) → unless_refused o x ≡ Err f → o ≡ Some f
refused None x f e = cc
refused (Some g) x f e = cc

pub append_tells : (fs gs : List (Option Fault)) → first (fs ++ gs) ≡ None → (first fs ≡ None) × (first gs ≡ None)
append_tells [] gs h = (refl, h)
append_tells (None ∷ fs) gs h = append_tells fs gs h
append_tells (Some f ∷ fs) gs h = cc
