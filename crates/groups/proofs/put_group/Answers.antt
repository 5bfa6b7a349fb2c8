-- `groups::put_group` meets its contract: each arm writes the group of its kind.

use native.Mathlib.Omega.{arith}
use Rattle.netlist.proofs.NetOf.{limits-alone}
use Rattle.groups.proofs.Alone.{port-alone, fits-alone, pair-alone, closing-alone, property-alone, wires-count, pair-count, closing-count, property-count, wires-depth, wrote-by-kind, wires-frame, pair-frames, closing-frame}
use Rattle.groups.proofs.put_group.Goals as goal

pub put_wires-requires : goal.put_wires-requires
put_wires-requires c =
    let p = c.requires in
    let e = c.in-Wires.is in (
      record { limits = p.0.limits; depth = omega (arith, wires-frame _ _ _ e p.2, p.1) },
      rw (wires-count _ _ _ _ _ e) at p.3,
    )

pub port_of-requires : goal.port_of-requires
port_of-requires c =
    let p = c.requires in
    let f = pair-frames _ _ _ _ _ c.in-Pair.is p.2 in
    port-alone _ _ _ p.0 _ f.2

pub put_pair-requires : goal.put_pair-requires
put_pair-requires c =
    let p = c.requires in
    let e = c.in-Pair.is in
    let f = pair-frames _ _ _ _ _ e p.2 in (
      record { fits = fits-alone _ _ _ p.0 _ f.2 _ c.port_of.ensures; earlier = omega (arith, f.1); depth = omega (arith, f.0, p.1) },
      rw (pair-count _ _ _ _ e) at p.3,
    )

pub port_of-requires-in-Closing : goal.port_of-requires-in-Closing
port_of-requires-in-Closing c =
    let p = c.requires in
    let f = closing-frame _ _ _ _ c.in-Closing.is p.2 in
    port-alone _ _ _ p.0 _ f.1

pub put_closing-requires : goal.put_closing-requires
put_closing-requires c =
    let p = c.requires in
    let e = c.in-Closing.is in
    let f = closing-frame _ _ _ _ e p.2 in (
      record { fits = fits-alone _ _ _ p.0 _ f.1 _ c.port_of-in-Closing.ensures; depth = omega (arith, f.0, p.1) },
      rw (closing-count _ _ _ _ _ _ e) at p.3,
    )

pub put_property-requires : goal.put_property-requires
put_property-requires c =
    let p = c.requires in
    let room = rw (property-count _ _ _ _ c.in-Property.is) at p.3 in
    (record { limits = limits-alone _ _ _ p.0.limits; depth = omega arith }, omega arith)

pub returns-in-Wires : goal.returns-in-Wires
returns-in-Wires c =
    let e = c.in-Wires.is in
    (wrote-by-kind _ _ e (wires-depth _ _ _) c.put_wires.ensures.0, rw (wires-count _ _ _ _ _ e) c.put_wires.ensures.1)

pub returns-in-Pair : goal.returns-in-Pair
returns-in-Pair c =
    let e = c.in-Pair.is in
    (wrote-by-kind _ _ e (pair-alone _ _ _ _ _ c.port_of.ensures _ _ _) c.put_pair.ensures.0, rw (pair-count _ _ _ _ e) c.put_pair.ensures.1)

pub returns-in-Closing : goal.returns-in-Closing
returns-in-Closing c =
    let e = c.in-Closing.is in
    (wrote-by-kind _ _ e (closing-alone _ _ _ _ _ c.port_of-in-Closing.ensures _ _) c.put_closing.ensures.0, rw (closing-count _ _ _ _ _ _ e) c.put_closing.ensures.1)

pub returns-in-Property : goal.returns-in-Property
returns-in-Property c =
    let e = c.in-Property.is in
    (wrote-by-kind _ _ e (property-alone _ _ _ _) c.put_property.ensures.0, rw (property-count _ _ _ _ e) c.put_property.ensures.1)
