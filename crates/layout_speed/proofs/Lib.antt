pub mod ManyBlocks
