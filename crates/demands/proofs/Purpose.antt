-- Proofs of the statements in specs/Purpose.
use Rattle.allowed.proofs.Order as order
use Rattle.demands.specs.Purpose.{PurposeHasShipment, PurposeIsNamed}

pub purpose_has_shipment : PurposeHasShipment
purpose_has_shipment = order.each_belongs

pub purpose_is_named : PurposeIsNamed
purpose_is_named = order.purpose_of_lem
