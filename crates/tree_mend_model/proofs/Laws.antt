-- The laws of `tree_mend_model` that other crates use, passed on.
pub use Rattle.tree_mend_model.proofs.Descent.{room-grows, room-step}
pub use Rattle.tree_mend_model.proofs.Mends.{has-tag, push-sum}
pub use Rattle.tree_mend_model.proofs.Sound.{Here, child-here, empty-sum, node-slots, root-here, tree_is, zero-all}
