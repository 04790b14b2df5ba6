-- The laws of unpacking.
mod UnpackLaws
